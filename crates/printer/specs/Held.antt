-- Every number that a run leaves has 32 bits, and every node's child entries are there: so the lines tell every run of the rules.
use Rattle.std.specs.Prelude.{Bool, ◌&&◌, ◌≡◌, refl, ltb, leb, eqb, pos, get_or, take, Ok, Err}
use Rattle.std.proofs.Math.Bool.{true, false}
use mathlib.Core.List.{List, [], ◌∷◌, ◌++◌, map, reverse_aux}
use Rattle.std.proofs.Common.{ap, ◌∙◌, arith, length-append, to_z}
use Prim.Native.Nat.{ℕ, zero, suc, ◌+◌, ◌*◌, ◌-◌, ◌/◌, ◌≤◌, ◌<◌, ◌^◌}
use Rattle.std.proofs.Math.Decide.{dec_lt}
use borrow.Author.Tests.{lt-ltb, le-ltb, ltb-true, leb-true}
use Rattle.std.proofs.Math.ListN.{length, drop}
use Rattle.std.proofs.lemmas.List.{length-reverse, length-map}
use Rattle.std.specs.Int.{w16}
use Rattle.words.specs.Words.{word16}
use Rattle.words.specs.Laws.{Bytes, get32_lt, pick_case}
use Rattle.rules.specs.declared.Cell.{Cell}
use Rattle.rules.specs.declared.Token.{Token}
use Rattle.rules.specs.declared.What.{What}
use Rattle.rules.specs.declared.Entry.{Entry}
use Rattle.rules.specs.declared.Formed.{Formed}
use Rattle.rules.specs.declared.StateNo.{StateNo}
use Rattle.rules.specs.declared.Answer.{Answer}
use Rattle.rules.specs.Verdict.{Verdict}
use Rattle.rules.specs.Tables.{Tables, cell_of, cell_at, action, states, columns, size, left, goto, target}
use Rattle.rules.specs.Driving.{Job, Run, Node, Marked, Mode, Outcome, no_token, token_at, has_token, top_of, counted, in_mode, read_to, advanced, child_of, node_of, grow, need, depth_over, judge_kind, arrive, token_entry, shift, end_or, after_or, start_or, first_or, empty_spot, production_entry, nodes_of, reduce_over, reduce, main_reduce, formed, fail, main_look, column_reduce, column_look, drop_token, further, states_of, start_simulation, search_look, has_dropped, mark_start, mark_end, marked, mark_entry, place_mark, recover, simulate_over, simulate_reduce, simulate_look, look, step, run_from, first_run, begin, drive}
use Rattle.rules.specs.Check.{check, max_tokens}
use Rattle.rules.specs.Answers.{kind_of, which_of, node_words, Limits, job_of, Reply, reply_of, after_check}
use Rattle.rules.specs.File.{file_tokens, file_reply, program_limits}
use Rattle.printer.specs.Stored.{Small}
use Rattle.printer.specs.Shown.{Fits, AllFit}
use Rattle.printer.specs.ShownTree.{AllSound, Told}

-- ---- what has 32 bits

-- what a run is given
pub record Narrow (J : Job) : Type 0 where
  pub starts : (i : ℕ) → (token_at J i).start < 2 ^ 32
  pub ends : (i : ℕ) → (token_at J i).end < 2 ^ 32
  pub count : length J.tokens < 2 ^ 32
  pub origin : J.origin < 2 ^ 32
  pub nodes : (n : ℕ) → J.nodes_fit n ≡ true → n < 2 ^ 32
  pub children : (n : ℕ) → J.children_fit n ≡ true → n < 2 ^ 32
  pub records : (n : ℕ) → J.records_fit n ≡ true → n < 2 ^ 32

pub record EntryFits (e : Entry) : Type 0 where
  pub number : which_of e.what < 2 ^ 32
  pub start : e.start < 2 ^ 32
  pub end : e.end < 2 ^ 32
  pub first : e.first < 2 ^ 32
  pub after : e.after < 2 ^ 32
  pub node : e.node < 2 ^ 32

abbrev pub AllEntries : List Entry → Type 0
AllEntries [] = Unit
AllEntries (e ∷ es) = EntryFits e × AllEntries es

pub record FormedFits (f : Formed) : Type 0 where
  pub number : f.number < 2 ^ 32
  pub at : f.at < 2 ^ 32
  pub from : f.from < 2 ^ 32

abbrev pub ModeFits : Mode → Type 0
ModeFits Mode.main = Unit
ModeFits (Mode.column f) = FormedFits f
ModeFits (Mode.search f k) = FormedFits f
ModeFits (Mode.simulate f k sim) = FormedFits f

abbrev CellFits : Cell → Type 0
CellFits (Cell.Shift s) = Unit
CellFits (Cell.Reduce p) = p.0 < 2 ^ 32
CellFits Cell.Error = Unit

-- what a run keeps
pub record Held (J : Job) (r : Run) : Type 0 where
  pub stack : AllEntries r.stack
  pub nodes : AllSound (length r.children) r.nodes
  pub children : Small r.children
  pub few : length r.children < 2 ^ 32
  pub marks : AllFit r.marks
  pub next : r.next ≤ length J.tokens
  pub last : r.last < 2 ^ 32
  pub mode : ModeFits r.mode

abbrev pub HeldO : Job → Outcome → Type 0
HeldO J (Outcome.more r) = Held J r
HeldO J (Outcome.done a r) = Held J r

-- ---- lists

all_take : (k : ℕ) (es : List Entry) → AllEntries es → AllEntries (take k es)
all_take zero es h = tt
all_take (suc k) [] h = tt
all_take (suc k) (e ∷ es) h = (h.0, all_take k es h.1)

all_drop : (k : ℕ) (es : List Entry) → AllEntries es → AllEntries (drop k es)
all_drop zero es h = h
all_drop (suc k) [] h = tt
all_drop (suc k) (e ∷ es) h = all_drop k es h.1

small_append : (xs ys : List ℕ) → Small xs → Small ys → Small (xs ++ ys)
small_append [] ys h k = k
small_append (x ∷ xs) ys h k = (h.0, small_append xs ys h.1 k)

fit_append : (xs ys : List Marked) → AllFit xs → AllFit ys → AllFit (xs ++ ys)
fit_append [] ys h k = k
fit_append (x ∷ xs) ys h k = (h.0, fit_append xs ys h.1 k)

sound_more : (n m : ℕ) (ns : List Node) → n ≤ m → AllSound n ns → AllSound m ns
sound_more n m [] l h = tt
sound_more n m (x ∷ ns) l h = (h.0, omega (arith, h.1), sound_more n m ns l h.2)

sound_snoc : (n : ℕ) (ns : List Node) (x : Node) → AllSound n ns → Small (node_words x) → x.child + x.count ≤ n → AllSound n (ns ++ (x ∷ []))
sound_snoc n [] x h s l = (s, l, tt)
sound_snoc n (y ∷ ns) x h s l = (h.0, h.1, sound_snoc n ns x h.2 s l)

small_reverse : (xs ys : List ℕ) → Small xs → Small ys → Small (reverse_aux xs ys)
small_reverse [] ys h k = k
small_reverse (x ∷ xs) ys h k = small_reverse xs (x ∷ ys) h.1 (h.0, k)

small_nodes : (es : List Entry) → AllEntries es → Small (map (λ (e : Entry). e.node) es)
small_nodes [] h = tt
small_nodes (e ∷ es) h = (h.0.node, small_nodes es h.1)

nodes_small : (es : List Entry) → AllEntries es → Small (nodes_of es)
nodes_small es h = small_reverse (map (λ (e : Entry). e.node) es) [] (small_nodes es h) tt

length_nodes_of_law : (es : List Entry) → length (nodes_of es) ≡ length es
length_nodes_of_law es = length-reverse (map (λ (e : Entry). e.node) es) ∙ length-map es (λ (e : Entry). e.node)

-- ---- the fields that are taken from entries

end_or_law : (d : ℕ) (es : List Entry) → d < 2 ^ 32 → AllEntries es → end_or d es < 2 ^ 32
end_or_law d [] h a = h
end_or_law d (e ∷ es) h a = a.0.end

after_or_law : (d : ℕ) (es : List Entry) → d < 2 ^ 32 → AllEntries es → after_or d es < 2 ^ 32
after_or_law d [] h a = h
after_or_law d (e ∷ es) h a = a.0.after

start_or_law : (d : ℕ) (es : List Entry) → d < 2 ^ 32 → AllEntries es → start_or d es < 2 ^ 32
start_or_law d [] h a = h
start_or_law d (e ∷ []) h a = a.0.start
start_or_law d (e ∷ (f ∷ es)) h a = start_or_law d (f ∷ es) h a.1

first_or_law : (d : ℕ) (es : List Entry) → d < 2 ^ 32 → AllEntries es → first_or d es < 2 ^ 32
first_or_law d [] h a = h
first_or_law d (e ∷ []) h a = a.0.first
first_or_law d (e ∷ (f ∷ es)) h a = first_or_law d (f ∷ es) h a.1

-- a production's number comes from 16 bits
cell_fits_law : (n : ℕ) → CellFits (cell_of (to_z w16 n))
cell_fits_law n =
    elim (dec_lt n (2 ^ 15)) [
      | yes h ↦ rw (lt-ltb _ _ h) (positive n)
      | no h ↦ let k : 2 ^ 15 ≤ n = omega arith in rw (le-ltb _ _ k) (omega arith)
    ]
  where
    positive : (n : ℕ) → CellFits (cell_of (pos n))
    positive zero = tt
    positive (suc n) = tt

action_fits_law : (T : Tables) (s c : ℕ) → CellFits (action T s c)
unfolding action cell_at
action_fits_law T s c =
    pick_case CellFits (ltb s (states T) && ltb c (columns T)) (cell_at T.actions (s * columns T + c)) Cell.Error
    (λ e. cell_fits_law (word16 T.actions (2 * (s * columns T + c))))
    (λ e. tt)

-- ---- a step's parts

need_held : (J : Job) (b : Bool) (a : Answer) (r : Run) (o : Outcome) → Held J r → (b ≡ true → HeldO J o) → HeldO J (need b a r o)
need_held J true a r o h f = f refl
need_held J false a r o h f = h

module _ (J : Job) (r : Run) (h : Held J r) where
  counted_held : Held J (counted r)
  counted_held =
      record { stack = h.stack; nodes = h.nodes; children = h.children; few = h.few; marks = h.marks; next = h.next; last = h.last; mode = h.mode }

  mode_held : (m : Mode) → ModeFits m → Held J (in_mode r m)
  mode_held m k =
      record { stack = h.stack; nodes = h.nodes; children = h.children; few = h.few; marks = h.marks; next = h.next; last = h.last; mode = k }

  read_held : (l : ℕ) → l < 2 ^ 32 → Held J (read_to r l)
  read_held l k =
      record { stack = h.stack; nodes = h.nodes; children = h.children; few = h.few; marks = h.marks; next = h.next; last = k; mode = h.mode }

  advanced_held : (m : Mode) → r.next < length J.tokens → ModeFits m → Held J (advanced r m)
  advanced_held m l k =
      record { stack = h.stack; nodes = h.nodes; children = h.children; few = h.few; marks = h.marks; next = omega arith; last = h.last; mode = k }

kind_small : (w : What) → kind_of w < 2 ^ 32
kind_small (What.Read i) = omega arith
kind_small (What.Mark i) = omega arith
kind_small (What.Production p) = omega arith

child_small : (at : ℕ) (ks : List ℕ) → at < 2 ^ 32 → child_of at ks < 2 ^ 32
child_small at [] h = omega arith
child_small at (k ∷ ks) h = h

child_in : (at : ℕ) (ks : List ℕ) → child_of at ks + length ks ≤ at + length ks
child_in at [] = omega arith
child_in at (k ∷ ks) = omega arith

node_small : (e : Entry) (at : ℕ) (ks : List ℕ) → EntryFits e → at < 2 ^ 32 → length ks < 2 ^ 32 → Small (node_words (node_of e at ks))
unfolding node_of node_words
node_small e at ks f h l =
    (kind_small e.what, (f.number, (child_small at ks h, (l, (f.start, (f.end, (f.first, (f.after, tt))))))))

grow_held : (J : Job) (r : Run) (rest : List Entry) (e : Entry) (ks : List ℕ) (ms : List Marked) (m : Mode) → Held J r → AllEntries rest → EntryFits e → Small ks → AllFit ms → length r.children + length ks < 2 ^ 32 → ModeFits m → Held J (grow r rest e ks ms m)
unfolding grow node_of
grow_held J r rest e ks ms m h a f s t l k =
    let n : length (r.children ++ ks) ≡ length r.children + length ks = length-append r.children ks in
    let i : child_of (length r.children) ks + length ks ≤ length (r.children ++ ks) = rw n (child_in (length r.children) ks) in
    let o : length r.children ≤ length (r.children ++ ks) = omega arith in
    record {
      stack = (f, a);
      nodes = sound_snoc (length (r.children ++ ks)) r.nodes (node_of e (length r.children) ks) (sound_more (length r.children) (length (r.children ++ ks)) r.nodes o h.nodes) (node_small e (length r.children) ks f h.few (omega arith)) i;
      children = small_append r.children ks h.children s;
      few = omega arith;
      marks = fit_append r.marks ms h.marks t;
      next = h.next;
      last = h.last;
      mode = k;
    }

-- ---- the steps

module _ (J : Job) (N : Narrow J) where
  judge_held : (r : Run) (t : Token) → Held J r → t.end < 2 ^ 32 → HeldO J (judge_kind J r t)
  unfolding judge_kind
  judge_held r t h l =
      pick_case (HeldO J) (eqb t.kind 65535) _ _ (λ e. h)
      (λ e. pick_case (HeldO J) (J.reads t.kind) _ _ (λ e. read_held J r h t.end l) (λ e. read_held J r h t.end l))

  arrive_held : (r : Run) → Held J r → HeldO J (arrive J r)
  unfolding arrive
  arrive_held r h =
      pick_case (HeldO J) (has_token J r) _ _ (λ e. judge_held r (token_at J r.next) h (N.ends r.next)) (λ e. h)

  next_fits : (r : Run) → Held J r → r.next < 2 ^ 32
  next_fits r h = let n = N.count in omega (arith, h.next)

  token_fits : (r : Run) (s : StateNo) → r.next < length J.tokens → length r.nodes < 2 ^ 32 → EntryFits (token_entry J r s)
  unfolding token_entry
  token_fits r s l n =
      let c = N.count in
      record { number = omega arith; start = N.starts r.next; end = N.ends r.next; first = omega arith; after = omega arith; node = n }

  shift_held : (r : Run) (s : StateNo) → Held J r → r.next < length J.tokens → HeldO J (shift J r s)
  unfolding shift grow
  shift_held r s h l =
      let grown : Run = grow r r.stack (token_entry J r s) [] [] Mode.main in
      let o : Outcome = arrive J (advanced grown Mode.main) in
      need_held J (J.depth_fits (depth_over r.stack)) Answer.OutOfDepth r (need (J.nodes_fit (length r.nodes + 1)) Answer.OutOfNodes r o) h
      (λ d. need_held J (J.nodes_fit (length r.nodes + 1)) Answer.OutOfNodes r o h
      (λ n.
      let k : length r.nodes + 1 < 2 ^ 32 = N.nodes (length r.nodes + 1) n in
      let c : length r.children + length {A = ℕ} [] < 2 ^ 32 = omega (arith, h.few) in
      let g : Held J grown = grow_held J r r.stack (token_entry J r s) [] [] Mode.main h h.stack (token_fits r s l (omega arith)) tt tt c tt in
      arrive_held (advanced grown Mode.main) (advanced_held J grown g Mode.main l tt)))

  spot_fits : (r : Run) (rest : List Entry) → AllEntries rest → empty_spot J r rest < 2 ^ 32
  unfolding empty_spot
  spot_fits r rest a =
      pick_case (λ n. n < 2 ^ 32) (has_token J r) _ _ (λ e. N.starts r.next) (λ e. end_or_law J.origin rest N.origin a)

  production_fits : (r : Run) (p : ℕ) (popped rest : List Entry) → Held J r → p < 2 ^ 32 → AllEntries popped → AllEntries rest → length r.nodes < 2 ^ 32 → EntryFits (production_entry J r p popped rest)
  unfolding production_entry
  production_fits r p popped rest h k a b n =
      record {
        number = k;
        start = start_or_law (empty_spot J r rest) popped (spot_fits r rest b) a;
        end = end_or_law (empty_spot J r rest) popped (spot_fits r rest b) a;
        first = first_or_law r.next popped (next_fits r h) a;
        after = after_or_law r.next popped (next_fits r h) a;
        node = n;
      }

  over_held : (r : Run) (p : ℕ) (popped rest : List Entry) (m : Mode) → Held J r → p < 2 ^ 32 → AllEntries popped → AllEntries rest → ModeFits m → HeldO J (reduce_over J r p popped rest m)
  unfolding reduce_over
  over_held r p popped rest m h k a b f =
      let o : Outcome = Outcome.more (grow r rest (production_entry J r p popped rest) (nodes_of popped) [] m) in
      let nodes : Outcome = need (J.nodes_fit (length r.nodes + 1)) Answer.OutOfNodes r o in
      let kids : Outcome = need (J.children_fit (length r.children + length popped)) Answer.OutOfChildren r nodes in
      need_held J (J.depth_fits (depth_over rest)) Answer.OutOfDepth r kids h
      (λ d. need_held J (J.children_fit (length r.children + length popped)) Answer.OutOfChildren r nodes h
      (λ c. need_held J (J.nodes_fit (length r.nodes + 1)) Answer.OutOfNodes r o h
      (λ n.
      let q : length r.nodes + 1 < 2 ^ 32 = N.nodes (length r.nodes + 1) n in
      let l : length r.children + length popped < 2 ^ 32 = N.children (length r.children + length popped) c in
      let e : length r.children + length (nodes_of popped) < 2 ^ 32 = rw (length_nodes_of_law popped) l in
      grow_held J r rest (production_entry J r p popped rest) (nodes_of popped) [] m h b (production_fits r p popped rest h k a b (omega arith)) (nodes_small popped a) tt e f)))

  reduce_held : (r : Run) (p : ℕ) (m : Mode) → Held J r → p < 2 ^ 32 → ModeFits m → HeldO J (reduce J r p m)
  unfolding reduce
  reduce_held r p m h k f =
      over_held r p (take (size J.tables p) r.stack) (drop (size J.tables p) r.stack) m h k (all_take (size J.tables p) r.stack h.stack) (all_drop (size J.tables p) r.stack h.stack) f

  main_reduce_held : (r : Run) (t : Bool) (p : ℕ) → Held J r → p < 2 ^ 32 → HeldO J (main_reduce J r t p)
  unfolding main_reduce
  main_reduce_held r true zero h k = h
  main_reduce_held r false zero h k = h
  main_reduce_held r true (suc p) h k = reduce_held r (suc p) Mode.main h k tt
  main_reduce_held r false (suc p) h k = reduce_held r (suc p) Mode.main h k tt

  formed_fits : (r : Run) (t : Bool) → Held J r → FormedFits (formed r t)
  unfolding formed
  formed_fits r true h = record { number = omega arith; at = next_fits r h; from = next_fits r h }
  formed_fits r false h = record { number = omega arith; at = h.last; from = next_fits r h }

  fail_held : (r : Run) (f : Formed) → Held J r → FormedFits f → HeldO J (fail J r f)
  unfolding fail
  fail_held r f h k = pick_case (HeldO J) J.recovers _ _ (λ e. mode_held J r h (Mode.column f) k) (λ e. h)

  main_held : (r : Run) (t : Bool) (c : Cell) → Held J r → (t ≡ true → r.next < length J.tokens) → CellFits c → HeldO J (main_look J r t c)
  unfolding main_look
  main_held r true (Cell.Shift s) h l k = shift_held r s h (l refl)
  main_held r false (Cell.Shift s) h l k = fail_held r (formed r false) h (formed_fits r false h)
  main_held r true (Cell.Reduce p) h l k = main_reduce_held r true p.0 h k
  main_held r false (Cell.Reduce p) h l k = main_reduce_held r false p.0 h k
  main_held r true Cell.Error h l k = fail_held r (formed r true) h (formed_fits r true h)
  main_held r false Cell.Error h l k = fail_held r (formed r false) h (formed_fits r false h)

  column_reduce_held : (r : Run) (f : Formed) (p : ℕ) → Held J r → FormedFits f → p < 2 ^ 32 → HeldO J (column_reduce J r f p)
  unfolding column_reduce
  column_reduce_held r f zero h k l = h
  column_reduce_held r f (suc p) h k l = reduce_held r (suc p) (Mode.column f) h l k

  column_held : (r : Run) (f : Formed) (c : Cell) → Held J r → FormedFits f → CellFits c → HeldO J (column_look J r f c)
  unfolding column_look
  column_held r f (Cell.Shift s) h k l = mode_held J r h (Mode.search f 0) k
  column_held r f (Cell.Reduce p) h k l = column_reduce_held r f p.0 h k l
  column_held r f Cell.Error h k l = mode_held J r h (Mode.search f 0) k

  drop_held : (r : Run) (f : Formed) → Held J r → FormedFits f → HeldO J (drop_token J r f)
  unfolding drop_token
  drop_held r f h k =
      pick_case (HeldO J) (has_token J r) _ _
      (λ e. arrive_held (advanced r (Mode.search f 0)) (advanced_held J r h (Mode.search f 0) (ltb-true r.next (length J.tokens) e) k))
      (λ e. h)

  further_held : (r : Run) (f : Formed) (k : ℕ) → Held J r → FormedFits f → HeldO J (further J r f k)
  unfolding further
  further_held r f k h q =
      pick_case (HeldO J) (ltb k (length r.stack)) _ _ (λ e. mode_held J r h (Mode.search f (k + 1)) q) (λ e. drop_held r f h q)

  search_held : (r : Run) (f : Formed) (k : ℕ) (c : Cell) → Held J r → FormedFits f → HeldO J (search_look J r f k c)
  unfolding search_look start_simulation
  search_held r f k (Cell.Shift s) h q =
      let m : Mode = Mode.simulate f k (s.0 ∷ states_of (drop k r.stack)) in
      need_held J (J.depth_fits (depth_over (states_of (drop k r.stack)))) Answer.OutOfDepth r (Outcome.more (in_mode r m)) h (λ d. mode_held J r h m q)
  search_held r f k (Cell.Reduce p) h q = further_held r f k h q
  search_held r f k Cell.Error h q = further_held r f k h q

  mark_start_fits : (r : Run) (f : Formed) (popped rest : List Entry) → AllEntries popped → AllEntries rest → mark_start J r f popped rest < 2 ^ 32
  unfolding mark_start
  mark_start_fits r f popped rest a b =
      start_or_law _ popped
      (pick_case (λ n. n < 2 ^ 32) (has_dropped r f) _ _ (λ e. N.starts f.from) (λ e. end_or_law J.origin rest N.origin b))
      a

  mark_end_fits : (r : Run) (f : Formed) (popped rest : List Entry) → AllEntries popped → AllEntries rest → mark_end J r f popped rest < 2 ^ 32
  unfolding mark_end
  mark_end_fits r f popped rest a b =
      pick_case (λ n. n < 2 ^ 32) (has_dropped r f) _ _ (λ e. N.ends (r.next - 1))
      (λ e. end_or_law _ popped
      (pick_case (λ n. n < 2 ^ 32) (has_token J r) _ _ (λ e. N.starts r.next) (λ e. mark_start_fits r f popped rest a b))
      a)

  marked_fits : (r : Run) (f : Formed) (popped rest : List Entry) → Held J r → FormedFits f → AllEntries popped → AllEntries rest → Fits (marked J r f popped rest)
  unfolding marked
  marked_fits r f popped rest h q a b =
      record {
        number = q.number;
        at = q.at;
        from = q.from;
        first = first_or_law f.from popped q.from a;
        after = next_fits r h;
        start = mark_start_fits r f popped rest a b;
        end = mark_end_fits r f popped rest a b;
      }

  mark_fits : (r : Run) (m : Marked) (rest : List Entry) → Fits m → length r.nodes < 2 ^ 32 → length r.marks < 2 ^ 32 → EntryFits (mark_entry J r m rest)
  unfolding mark_entry
  mark_fits r m rest f n k =
      record { number = k; start = f.start; end = f.end; first = f.first; after = f.after; node = n }

  place_held : (r : Run) (m : Marked) (rest : List Entry) → Held J r → Fits m → AllEntries rest → HeldO J (place_mark J r m rest)
  unfolding place_mark
  place_held r m rest h f a =
      let o : Outcome = Outcome.more (grow r rest (mark_entry J r m rest) [] (m ∷ []) Mode.main) in
      let records : Outcome = need (J.records_fit (length r.marks + 1)) Answer.OutOfRecords r o in
      need_held J (J.nodes_fit (length r.nodes + 1)) Answer.OutOfNodes r records h
      (λ n. need_held J (J.records_fit (length r.marks + 1)) Answer.OutOfRecords r o h
      (λ k.
      let q : length r.nodes + 1 < 2 ^ 32 = N.nodes (length r.nodes + 1) n in
      let w : length r.marks + 1 < 2 ^ 32 = N.records (length r.marks + 1) k in
      let c : length r.children + length {A = ℕ} [] < 2 ^ 32 = omega (arith, h.few) in
      grow_held J r rest (mark_entry J r m rest) [] (m ∷ []) Mode.main h a (mark_fits r m rest f (omega arith) (omega arith)) tt (f, tt) c tt))

  recover_held : (r : Run) (f : Formed) (k : ℕ) → Held J r → FormedFits f → HeldO J (recover J r f k)
  unfolding recover
  recover_held r f k h q =
      let a : AllEntries (take k r.stack) = all_take k r.stack h.stack in
      let b : AllEntries (drop k r.stack) = all_drop k r.stack h.stack in
      place_held r (marked J r f (take k r.stack) (drop k r.stack)) (drop k r.stack) h (marked_fits r f (take k r.stack) (drop k r.stack) h q a b) b

  simulate_reduce_held : (r : Run) (f : Formed) (k : ℕ) (sim : List ℕ) (p : ℕ) → Held J r → FormedFits f → HeldO J (simulate_reduce J r f k sim p)
  unfolding simulate_reduce simulate_over
  simulate_reduce_held r f k sim zero h q = recover_held r f k h q
  simulate_reduce_held r f k sim (suc p) h q =
      let rest : List ℕ = drop (size J.tables (suc p)) sim in
      let m : Mode = Mode.simulate f k (target (goto J.tables (top_of rest) (left J.tables (suc p))) ∷ rest) in
      need_held J (J.depth_fits (depth_over rest)) Answer.OutOfDepth r (Outcome.more (in_mode r m)) h (λ d. mode_held J r h m q)

  simulate_held : (r : Run) (f : Formed) (k : ℕ) (sim : List ℕ) (c : Cell) → Held J r → FormedFits f → HeldO J (simulate_look J r f k sim c)
  unfolding simulate_look
  simulate_held r f k sim (Cell.Shift s) h q = recover_held r f k h q
  simulate_held r f k sim (Cell.Reduce p) h q = simulate_reduce_held r f k sim p.0 h q
  simulate_held r f k sim Cell.Error h q = further_held r f k h q

  look_held : (r : Run) (m : Mode) → Held J r → ModeFits m → HeldO J (look J r m)
  unfolding look
  look_held r Mode.main h q = main_held r (has_token J r) _ h (λ e. ltb-true r.next (length J.tokens) e) (action_fits_law J.tables _ _)
  look_held r (Mode.column f) h q = column_held r f _ h q (action_fits_law J.tables _ _)
  look_held r (Mode.search f k) h q = search_held r f k _ h q
  look_held r (Mode.simulate f k sim) h q = simulate_held r f k sim _ h q

  step_held : (r : Run) → Held J r → HeldO J (step J r)
  unfolding step
  step_held r h = look_held (counted r) r.mode (counted_held J r h) h.mode

  run_held : (n : ℕ) (o : Outcome) → HeldO J o → HeldO J (run_from J n o)
  unfolding run_from
  run_held zero (Outcome.more r) h = h
  run_held zero (Outcome.done a r) h = h
  run_held (suc n) (Outcome.more r) h = run_held n (step J r) (step_held r h)
  run_held (suc n) (Outcome.done a r) h = h

  first_held : Held J (first_run J)
  unfolding first_run
  first_held =
      record { stack = tt; nodes = tt; children = tt; few = omega arith; marks = tt; next = omega arith; last = N.origin; mode = tt }

  pub drive_held : (budget : ℕ) → HeldO J (drive J budget)
  unfolding drive begin
  drive_held budget =
      run_held budget (begin J) (need_held J (J.depth_fits 1) Answer.OutOfDepth (first_run J) (arrive J (first_run J)) first_held (λ e. arrive_held (first_run J) first_held))

-- ---- so the lines tell it

abbrev pub ToldBy : Reply → Type 0
ToldBy (Reply.refused number place) = Unit
ToldBy (Reply.answered a r) = Told r

pub told_reply : (J : Job) (o : Outcome) → HeldO J o → ToldBy (reply_of o)
unfolding reply_of
told_reply J (Outcome.more r) h = record { nodes = h.nodes; children = h.children; marks = h.marks }
told_reply J (Outcome.done a r) h = record { nodes = h.nodes; children = h.children; marks = h.marks }

-- every run of the program: its tokens come from bytes, and its limits are small
abbrev AllNarrow : List Token → Type 0
AllNarrow [] = Unit
AllNarrow (t ∷ ts) = (t.start < 2 ^ 32) × (t.end < 2 ^ 32) × AllNarrow ts

start_narrow : (ts : List Token) (i : ℕ) → AllNarrow ts → (get_or ts i no_token).start < 2 ^ 32
start_narrow [] zero a = omega arith
start_narrow [] (suc i) a = omega arith
start_narrow (t ∷ ts) zero a = a.0
start_narrow (t ∷ ts) (suc i) a = start_narrow ts i a.2

end_narrow : (ts : List Token) (i : ℕ) → AllNarrow ts → (get_or ts i no_token).end < 2 ^ 32
end_narrow [] zero a = omega arith
end_narrow [] (suc i) a = omega arith
end_narrow (t ∷ ts) zero a = a.1
end_narrow (t ∷ ts) (suc i) a = end_narrow ts i a.2

pub narrow_job : (T : Tables) (ts : List Token) (origin : ℕ) (L : Limits) → AllNarrow ts → length ts < 2 ^ 32 → origin < 2 ^ 32 → L.nodes < 2 ^ 32 → L.children < 2 ^ 32 → L.records < 2 ^ 32 → Narrow (job_of T ts origin L)
unfolding job_of
narrow_job T ts origin L a c o n k m =
    record {
      starts = λ i. start_narrow ts i a;
      ends = λ i. end_narrow ts i a;
      count = c;
      origin = o;
      nodes = λ i e. let q : i ≤ L.nodes = leb-true i L.nodes e in omega arith;
      children = λ i e. let q : i ≤ L.children = leb-true i L.children e in omega arith;
      records = λ i e. let q : i ≤ L.records = leb-true i L.records e in omega arith;
    }

file_narrow : (s : List ℕ) (at n : ℕ) → Bytes s → AllNarrow (file_tokens s at n)
unfolding file_tokens
file_narrow s at zero b = tt
file_narrow s at (suc n) b = (get32_lt s (at + 2) b, get32_lt s (at + 6) b, file_narrow s (at + 10) n b)

length_file : (s : List ℕ) (at n : ℕ) → length (file_tokens s at n) ≡ n
unfolding file_tokens
length_file s at zero = refl
length_file s at (suc n) = ap suc (length_file s (at + 10) n)

told_after : (v : Verdict) (r : Reply) → ToldBy r → ToldBy (after_check v r)
unfolding after_check
told_after (Ok _) r t = t
told_after (Err refusal) r t = tt

-- What the program answers for a file, its lines tell.
pub told_file : (T : Tables) (s : List ℕ) → Bytes s → length s < 2 ^ 32 → ToldBy (file_reply T s)
unfolding file_reply
told_file T s b l =
    let n : ℕ = length s / 10 in
    let c : length (file_tokens s 0 n) < 2 ^ 32 = rw (length_file s 0 n) (omega arith) in
    let J : Job = job_of T (file_tokens s 0 n) 0 program_limits in
    let N : Narrow J = narrow_job T (file_tokens s 0 n) 0 program_limits (file_narrow s 0 n b) c (omega arith) (omega arith) (omega arith) (omega arith) in
    told_after (check T) _
    (pick_case ToldBy (leb n max_tokens) _ _ (λ e. told_reply J (drive J program_limits.budget) (drive_held J N program_limits.budget)) (λ e. tt))
