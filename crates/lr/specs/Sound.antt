-- The plain driver is sound: what it accepts is derived by the tree that it builds, whose leaves are the tokens in order.
-- Beside the trees of `Stands` a run without recovery keeps this: the leaves on its stack, then the tokens ahead, are all tokens.
use Rattle.std.specs.Prelude.{Bool, true, false, List, [], ◌∷◌, ◌++◌, ◌≡◌, refl, ℕ, zero, suc, ◌+◌, eqb, length, take, drop}
use Rattle.std.proofs.Common.{sym, ap, subst, ◌∙◌, add-one, arith, ltb-true, ltb-false}
use Rattle.words.specs.Laws.{pick_case}
use Rattle.rules.specs.declared.Token.{Token}
use Rattle.rules.specs.declared.What.{What}
use Rattle.rules.specs.declared.What.TheVariants.{Read, Mark, Production}
use Rattle.rules.specs.declared.Entry.{Entry}
use Rattle.rules.specs.declared.Formed.{Formed}
use Rattle.rules.specs.declared.Answer.{Answer}
use Rattle.rules.specs.declared.Answer.TheVariants.{Accepted, AcceptedEarly, UnrecognizedToken, UnrecognizedEnd, ExtraToken, TokenizerError, OutOfUnits, OutOfDepth, OutOfChildren, OutOfNodes, OutOfRecords}
use Rattle.rules.specs.Tables.{Tables, size, symbol}
use Rattle.rules.specs.Driving.{Job, Run, main, Outcome, more, done, Node, node_of, production_entry, has_token, counted, advanced, grow, need, arrive, token_entry, answer_of, begin, first_run}
use Rattle.rules.specs.Trees.{Tree, leaf, branch, Forest, nil, cons, Leaf, token, leaves_t, leaves_f, leaves, Derives}
use Rattle.lr.specs.Each.{Each, each_append}
use Rattle.lr.specs.Bools.{not_both}
use Rattle.lr.specs.Invariant.{Fits, OK, counted_ok, symbol_for, Stops, Carries, Does, arrive_keeps, shifts, reduces, marks, stops, accepts, extra, refuses, forms, early, turns, drops, gives_up}
use Rattle.lr.specs.Built.{Built}
use Rattle.lr.specs.Stands.{kind_in, terminal, forest_of, Stood, bare, over, stood_shift, stood_reduce}

-- n tokens in order, from token i on
abbrev pub in_order : ℕ → ℕ → List Leaf
in_order i zero = []
in_order i (suc n) = token i ∷ in_order (suc i) n

-- the leaves of the trees on a stack, the top first in the list and last in the input, and then the rest
abbrev pub leaves_s : {A : Type 0} → List (Tree A) → List A → List A
leaves_s [] rest = rest
leaves_s (t ∷ ts) rest = leaves_s ts (leaves_t t rest)

-- a reduction moves no leaf
pub leaves_gathered : {A : Type 0} (n : ℕ) (ts : List (Tree A)) (f : Forest A) (rest : List A)
    → leaves_s (drop n ts) (leaves_f (forest_of (take n ts) f) rest) ≡ leaves_s ts (leaves_f f rest)
leaves_gathered zero ts f rest = refl
leaves_gathered (suc n) [] f rest = refl
leaves_gathered (suc n) (t ∷ ts) f rest = leaves_gathered n ts (cons t f) rest

-- ---- a run without recovery

abbrev pub NotMark : What → Type 0
NotMark (Read i) = Unit
NotMark (Mark i) = ⊥
NotMark (Production p) = Unit

-- no node is a mark
abbrev pub Unmarked : List Node → Type 0
Unmarked ns = Each (λ (n : Node). NotMark n.what) ns

pub record Reading (J : Job) (r : Run) : Type 0 where
  pub trees : List (Tree Leaf)
  pub stood : Stood J r.nodes r.children r.stack trees
  pub ahead : ℕ
  pub place : r.next + ahead ≡ length J.tokens
  pub order : leaves_s trees (in_order r.next ahead) ≡ in_order 0 (length J.tokens)
  pub in_main : r.mode ≡ main
  pub no_marks : r.marks ≡ []
  pub unmarked : Unmarked r.nodes

-- what an accepted run has read
pub record Parsed (J : Job) (r : Run) (root : ℕ) : Type 0 where
  pub tree : Tree Leaf
  pub built : Built r.nodes r.children root tree
  pub derives : Derives J.tables (terminal J) (symbol J.tables 0 0) tree
  pub order : leaves tree ≡ in_order 0 (length J.tokens)
  pub no_marks : r.marks ≡ []
  pub unmarked : Unmarked r.nodes

-- the answers that make no claim of a tree
abbrev pub Claims : Job → Run → Answer → Type 0
Claims J r (Accepted root) = Parsed J r root
Claims J r (AcceptedEarly root i) = ⊥
Claims J r (UnrecognizedToken i s) = Unit
Claims J r (UnrecognizedEnd l s) = Unit
Claims J r (ExtraToken i) = Unit
Claims J r (TokenizerError i) = Unit
Claims J r OutOfUnits = Unit
Claims J r OutOfDepth = Unit
Claims J r OutOfChildren = Unit
Claims J r OutOfNodes = Unit
Claims J r OutOfRecords = Unit

abbrev pub Reads : Job → Outcome → Type 0
Reads J (more r) = Reading J r
Reads J (done a r) = Claims J r a

stopped : (J : Job) (r : Run) (a : Answer) → Stops a → Claims J r a
stopped J r (Accepted root) s = absurd s
stopped J r (AcceptedEarly root i) s = absurd s
stopped J r (UnrecognizedToken i t) s = tt
stopped J r (UnrecognizedEnd l t) s = tt
stopped J r (ExtraToken i) s = tt
stopped J r (TokenizerError i) s = tt
stopped J r OutOfUnits s = tt
stopped J r OutOfDepth s = tt
stopped J r OutOfChildren s = tt
stopped J r OutOfNodes s = tt
stopped J r OutOfRecords s = tt

formed_claims : (J : Job) (r : Run) (f : Formed) → Claims J r (answer_of f)
unfolding answer_of
formed_claims J r f = pick_case (Claims J r) (eqb f.number 3) _ _ (λ t. tt) (λ t. tt)

parsed : {J : Job} {r : Run} (e : Entry) → r.stack ≡ e ∷ [] → symbol_for J e.what ≡ symbol J.tables 0 0 → has_token J r ≡ false → Reading J r → Parsed J r e.node
parsed {J} {r} e q x h rd = go rd.trees rd.ahead (subst (λ es. Stood J r.nodes r.children es rd.trees) q rd.stood) (omega (arith, ltb-false r.next (length J.tokens) h, rd.place)) rd.order
  where
    go : (ts : List (Tree Leaf)) (k : ℕ) → Stood J r.nodes r.children (e ∷ []) ts → k ≡ 0 → leaves_s ts (in_order r.next k) ≡ in_order 0 (length J.tokens) → Parsed J r e.node
    go ts k (over {t = t} b d bare) z o =
        record {
          tree = t;
          built = b;
          derives = subst (λ X. Derives J.tables (terminal J) X t) x d;
          order = subst (λ n. leaves_t t (in_order r.next n) ≡ in_order 0 (length J.tokens)) z o;
          no_marks = rd.no_marks;
          unmarked = rd.unmarked;
        }

-- neither a counted look nor a new last location touches it
reread : {J : Job} {r : Run} (u l : ℕ) → Reading J r
    → Reading J (record { stack = r.stack; nodes = r.nodes; children = r.children; marks = r.marks; units = u; next = r.next; last = l; mode = r.mode })
reread u l rd =
    record { trees = rd.trees; stood = rd.stood; ahead = rd.ahead; place = rd.place; order = rd.order; in_main = rd.in_main; no_marks = rd.no_marks; unmarked = rd.unmarked }

pub reads_on : {J : Job} {r : Run} {o : Outcome} → Fits J → J.recovers ≡ false → OK J r → Reading J r → Does J r o → Reads J o
unfolding grow node_of token_entry production_entry
reads_on {J} {r} F nr ok rd (stops {a = a} s) = stopped J _ a s
reads_on {J} {r} F nr ok rd (shifts {s = s} e h a) = shifted rd.ahead refl
  where
    next : Run
    next = advanced (grow (counted r) r.stack (token_entry J (counted r) s) [] [] main) main

    one : (k : ℕ) → rd.ahead ≡ suc k → Reading J next
    one k q =
        record {
          trees = leaf (token r.next) ∷ rd.trees;
          stood = stood_shift {r = counted r} F (counted_ok ok) rd.stood s h;
          ahead = k;
          place = omega (arith, rd.place, q);
          order = rw add-one (subst (λ n. leaves_s rd.trees (in_order r.next n) ≡ in_order 0 (length J.tokens)) q rd.order);
          in_main = refl;
          no_marks = ap (λ l. l ++ []) rd.no_marks;
          unmarked = each_append _ r.nodes _ rd.unmarked (tt, tt);
        }

    shifted : (k : ℕ) → rd.ahead ≡ k → Reads J (arrive J next)
    shifted zero q = absurd (omega (arith, rd.place, ltb-true r.next (length J.tokens) h))
    shifted (suc k) q = arrive_keeps (Reads J) J next (one k q) (λ l. reread (r.units + 1) l (one k q)) tt (λ l. tt)
reads_on {J} {r} F nr ok rd (reduces {p = p} e l d) =
    record {
      trees = branch (suc p) (forest_of (take (size J.tables (suc p)) rd.trees) nil) ∷ drop (size J.tables (suc p)) rd.trees;
      stood = stood_reduce {r = counted r} F (counted_ok ok) rd.stood (suc p) _ _ refl refl d;
      ahead = rd.ahead;
      place = rd.place;
      order = leaves_gathered (size J.tables (suc p)) rd.trees nil (in_order r.next rd.ahead) ∙ rd.order;
      in_main = sym e ∙ rd.in_main;
      no_marks = ap (λ l. l ++ []) rd.no_marks;
      unmarked = each_append _ r.nodes _ rd.unmarked (tt, tt);
    }
reads_on {J} {r} F nr ok rd (accepts {e = e} m h q x) = parsed e q x h (reread (r.units + 1) r.last rd)
reads_on {J} {r} F nr ok rd (extra m h q) = tt
reads_on {J} {r} F nr ok rd (refuses m h) = formed_claims J _ _
reads_on {J} {r} F nr ok rd (forms m h) = not_both h nr
reads_on {J} {r} F nr ok rd (early {f = f} {e = e} m q x) = absurd (subst (λ m. Carries m f) (sym m ∙ rd.in_main) refl)
reads_on {J} {r} F nr ok rd (turns f c d m) = absurd (subst (λ m. Carries m f) rd.in_main c)
reads_on {J} {r} F nr ok rd (drops f c h) = absurd (subst (λ m. Carries m f) rd.in_main c)
reads_on {J} {r} F nr ok rd (gives_up f c h) = absurd (subst (λ m. Carries m f) rd.in_main c)
reads_on {J} {r} F nr ok rd (marks f k c l a) = absurd (subst (λ m. Carries m f) rd.in_main c)

pub begin_reads : (J : Job) → Reads J (begin J)
unfolding begin first_run
begin_reads J = go (J.depth_fits 1)
  where
    first : Reading J (first_run J)
    first = record { trees = []; stood = bare; ahead = length J.tokens; place = omega arith; order = refl; in_main = refl; no_marks = refl; unmarked = tt }

    go : (b : Bool) → Reads J (need b OutOfDepth (first_run J) (arrive J (first_run J)))
    go true = arrive_keeps (Reads J) J (first_run J) first (λ l. reread 0 l first) tt (λ l. tt)
    go false = tt

-- ---- the plain driver

-- a derivation of a token list from the nonterminal on production 0's right side
pub record Derivation (T : Tables) (tokens : List Token) (tree : Tree Leaf) : Type 0 where
  pub derives : Derives T (kind_in T tokens) (symbol T 0 0) tree
  pub order : leaves tree ≡ in_order 0 (length tokens)
