-- The rules' machine on bytes: each definition does what its namesake of `rules` does (specs/Driving.antt there), with the lists
-- as bytes in rooms and counts beside them. The code is proved equal to this, and this to refine the rules.
use Rattle.std.specs.Prelude.{Bool, true, false, List, ℕ, zero, suc, ◌+◌, ◌*◌, ◌-◌, ◌/◌, min, leb, ltb, eqb, length}
use Rattle.words.specs.Words.{pick, word32, put32}
use Rattle.rules.specs.declared.Cell.{Cell}
use Rattle.rules.specs.declared.Cell.TheVariants.{Shift, Reduce, Error}
use Rattle.rules.specs.declared.What.TheVariants.{Read, Mark, Production}
use Rattle.rules.specs.declared.Entry.{Entry}
use Rattle.rules.specs.declared.Formed.{Formed}
use Rattle.rules.specs.declared.StateNo.{StateNo}
use Rattle.rules.specs.declared.Answer.{Answer}
use Rattle.rules.specs.declared.Answer.TheVariants.{Accepted, AcceptedEarly, UnrecognizedToken, ExtraToken, TokenizerError, OutOfUnits, OutOfDepth, OutOfChildren, OutOfNodes, OutOfRecords}
use Rattle.rules.specs.Tables.{Tables, kinds, flag, error_column, end_column, action, goto, target, left, size}
use Rattle.rules.specs.Driving.{answer_of, expected_word}
use Rattle.rules.specs.Answers.{expected_words, ones_of}
use Rattle.model.specs.declared.Mode.{Mode}
use Rattle.model.specs.declared.Mode.TheVariants.{Main, Column, Search, Simulate, Ended}
use Rattle.model.specs.declared.St.{St}
use Rattle.model.specs.Bytes.{put8, put_entry, node_at, start_at, end_at, first_at, after_at, top_at, put_node, copy_nodes, sim_top}

-- What a call is given: the tables' and tokens' bytes, the number of tokens, the start location, and the depth that fits.
pub record Call : Type 0 where
  pub tables : Tables
  pub tokens : List ℕ
  pub count : ℕ
  pub origin : ℕ
  pub depth : ℕ

-- the lent rooms and the state
pub record World : Type 0 where
  pub stack : List ℕ
  pub scratch : List ℕ
  pub nodes : List ℕ
  pub children : List ℕ
  pub records : List ℕ
  pub st : St

abbrev pub with_st : World → St → World
with_st w st =
    record { stack = w.stack; scratch = w.scratch; nodes = w.nodes; children = w.children; records = w.records; st = st }

-- the state with one thing changed
abbrev pub counted : St → St
counted s =
    record { height = s.height; nodes = s.nodes; children = s.children; records = s.records; units = s.units + 1; next = s.next; last = s.last; mode = s.mode; formed = s.formed; popped = s.popped; base = s.base; pushed = s.pushed; answer = s.answer }

abbrev pub in_mode : St → Mode → St
in_mode s m =
    record { height = s.height; nodes = s.nodes; children = s.children; records = s.records; units = s.units; next = s.next; last = s.last; mode = m; formed = s.formed; popped = s.popped; base = s.base; pushed = s.pushed; answer = s.answer }

abbrev pub ended : St → Answer → St
ended s a =
    record { height = s.height; nodes = s.nodes; children = s.children; records = s.records; units = s.units; next = s.next; last = s.last; mode = Ended; formed = s.formed; popped = s.popped; base = s.base; pushed = s.pushed; answer = a }

abbrev pub read_to : St → ℕ → St
read_to s last =
    record { height = s.height; nodes = s.nodes; children = s.children; records = s.records; units = s.units; next = s.next; last = last; mode = s.mode; formed = s.formed; popped = s.popped; base = s.base; pushed = s.pushed; answer = s.answer }

abbrev pub failing : St → Formed → St
failing s f =
    record { height = s.height; nodes = s.nodes; children = s.children; records = s.records; units = s.units; next = s.next; last = s.last; mode = Column; formed = f; popped = s.popped; base = s.base; pushed = s.pushed; answer = s.answer }

abbrev pub searching : St → ℕ → St
searching s k =
    record { height = s.height; nodes = s.nodes; children = s.children; records = s.records; units = s.units; next = s.next; last = s.last; mode = Search; formed = s.formed; popped = k; base = s.base; pushed = s.pushed; answer = s.answer }

abbrev pub dropped : St → St
dropped s =
    record { height = s.height; nodes = s.nodes; children = s.children; records = s.records; units = s.units; next = s.next + 1; last = s.last; mode = Search; formed = s.formed; popped = 0; base = s.base; pushed = s.pushed; answer = s.answer }

abbrev pub simulating : St → ℕ → ℕ → St
simulating s base pushed =
    record { height = s.height; nodes = s.nodes; children = s.children; records = s.records; units = s.units; next = s.next; last = s.last; mode = Simulate; formed = s.formed; popped = s.popped; base = base; pushed = pushed; answer = s.answer }

-- one node more, and the entry at that height; so many child entries and records more; the next token
abbrev pub grown : St → ℕ → ℕ → ℕ → ℕ → Mode → St
grown s height kids marks next m =
    record { height = height; nodes = s.nodes + 1; children = s.children + kids; records = s.records + marks; units = s.units; next = next; last = s.last; mode = m; formed = s.formed; popped = s.popped; base = s.base; pushed = s.pushed; answer = s.answer }

abbrev pub stop : World → Answer → World
stop w a = with_st w (ended w.st a)

abbrev pub need : Bool → Answer → World → World → World
need true a w o = o
need false a w o = stop w a

-- the limits: "lent lengths in whole entries"
abbrev pub depth_fits : Call → ℕ → Bool
depth_fits C n = leb n C.depth

abbrev pub nodes_fit : World → ℕ → Bool
nodes_fit w n = leb n (length w.nodes / 32)

abbrev pub children_fit : World → ℕ → Bool
children_fit w n = leb n (length w.children / 4)

abbrev pub records_fit : World → ℕ → Bool
records_fit w n = leb n (length w.records / 64)

-- tokens
abbrev pub token_kind : Call → ℕ → ℕ
token_kind C i = word32 C.tokens (12 * i)

abbrev pub token_start : Call → ℕ → ℕ
token_start C i = word32 C.tokens (12 * i + 4)

abbrev pub token_end : Call → ℕ → ℕ
token_end C i = word32 C.tokens (12 * i + 8)

abbrev pub has_token : Call → St → Bool
has_token C s = ltb s.next C.count

unfoldable pub look_column : Call → St → ℕ
look_column C s = pick (has_token C s) (token_kind C s.next) (end_column C.tables)

-- the state after the token at `next` is judged; `top` is the stack's top state
unfoldable pub judged : Call → St → ℕ → St
judged C s top =
    pick (eqb (token_kind C s.next) 65535) (ended s (TokenizerError s.next))
    (pick (ltb (token_kind C s.next) (kinds C.tables)) (read_to s (token_end C s.next))
    (ended (read_to s (token_end C s.next)) (UnrecognizedToken s.next (record { 0 = top }))))

unfoldable pub arrived : Call → St → ℕ → St
arrived C s top = pick (has_token C s) (judged C s top) s

-- shift
unfoldable pub token_entry : Call → St → StateNo → Entry
token_entry C s to =
    record { what = Read s.next; start = token_start C s.next; end = token_end C s.next; first = s.next; after = s.next + 1; state = to; node = s.nodes }

-- the entry at that height of the stack, with its node
unfoldable pub push : World → ℕ → Entry → ℕ → ℕ → List ℕ → List ℕ → St → World
push w height e child count children records st =
    record { stack = put_entry w.stack height e; scratch = w.scratch; nodes = put_node w.nodes w.st.nodes e child count; children = children; records = records; st = st }

unfoldable pub shifted : Call → World → StateNo → World
shifted C w to =
    push w w.st.height (token_entry C w.st to) 0 0 w.children w.records
    (arrived C (grown w.st (w.st.height + 1) 0 0 (w.st.next + 1) Main) to.0)

unfoldable pub shift : Call → World → StateNo → World
shift C w to =
    need (depth_fits C (w.st.height + 2)) OutOfDepth w (need (nodes_fit w (w.st.nodes + 1)) OutOfNodes w (shifted C w to))

-- reduce: `rest` is the height that is left, `k` the number popped
unfoldable pub end_below : Call → List ℕ → ℕ → ℕ
end_below C stack rest = pick (eqb rest 0) C.origin (end_at stack (rest - 1))

unfoldable pub empty_spot : Call → World → ℕ → ℕ
empty_spot C w rest = pick (has_token C w.st) (token_start C w.st.next) (end_below C w.stack rest)

unfoldable pub production_entry : Call → World → ℕ → ℕ → ℕ → Entry
production_entry C w p k rest =
    record {
      what = Production p;
      start = pick (eqb k 0) (empty_spot C w rest) (start_at w.stack rest);
      end = pick (eqb k 0) (empty_spot C w rest) (end_at w.stack (w.st.height - 1));
      first = pick (eqb k 0) w.st.next (first_at w.stack rest);
      after = pick (eqb k 0) w.st.next (after_at w.stack (w.st.height - 1));
      state = record { 0 = target (goto C.tables (top_at w.stack rest) (left C.tables p)) };
      node = w.st.nodes;
    }

unfoldable pub reduced : Call → World → ℕ → ℕ → ℕ → World
reduced C w p k rest =
    push w rest (production_entry C w p k rest) (pick (eqb k 0) 0 w.st.children) k
    (copy_nodes k w.children w.st.children w.stack rest)
    w.records
    (grown w.st (rest + 1) k 0 w.st.next w.st.mode)

unfoldable pub reduce_over : Call → World → ℕ → ℕ → ℕ → World
reduce_over C w p k rest =
    need (depth_fits C (rest + 2)) OutOfDepth w
    (need (children_fit w (w.st.children + k)) OutOfChildren w (need (nodes_fit w (w.st.nodes + 1)) OutOfNodes w (reduced C w p k rest)))

unfoldable pub reduce : Call → World → ℕ → World
reduce C w p =
    reduce_over C w p (min (size C.tables p) w.st.height) (w.st.height - min (size C.tables p) w.st.height)

unfoldable pub root_at : World → ℕ
root_at w = pick (eqb w.st.height 0) 0 (node_at w.stack (w.st.height - 1))

unfoldable pub main_reduce : Call → World → Bool → ℕ → World
main_reduce C w true zero = stop w (ExtraToken w.st.next)
main_reduce C w false zero = stop w (Accepted (root_at w))
main_reduce C w token (suc p) = reduce C w (suc p)

unfoldable pub formed_at : World → Bool → Formed
formed_at w true = record { number = 3; at = w.st.next; from = w.st.next; top = record { 0 = top_at w.stack w.st.height } }
formed_at w false = record { number = 4; at = w.st.last; from = w.st.next; top = record { 0 = top_at w.stack w.st.height } }

unfoldable pub fail : Call → World → Formed → World
fail C w f = with_st w (pick (eqb (flag C.tables) 1) (failing w.st f) (ended w.st (answer_of f)))

unfoldable pub main_look : Call → World → Bool → Cell → World
main_look C w true (Shift s) = shift C w s
main_look C w false (Shift s) = fail C w (formed_at w false)
main_look C w token (Reduce p) = main_reduce C w token p.0
main_look C w token Error = fail C w (formed_at w token)

unfoldable pub column_reduce : Call → World → ℕ → World
column_reduce C w zero = stop w (AcceptedEarly (root_at w) w.st.formed.from)
column_reduce C w (suc p) = reduce C w (suc p)

unfoldable pub column_look : Call → World → Cell → World
column_look C w (Shift s) = with_st w (searching w.st 0)
column_look C w (Reduce p) = column_reduce C w p.0
column_look C w Error = with_st w (searching w.st 0)

unfoldable pub drop_token : Call → World → World
drop_token C w =
    with_st w
    (pick (has_token C w.st) (arrived C (dropped w.st) (top_at w.stack w.st.height))
    (ended w.st (answer_of w.st.formed)))

unfoldable pub further : Call → World → World
further C w = pick (ltb w.st.popped w.st.height) (with_st w (searching w.st (w.st.popped + 1))) (drop_token C w)

-- a state goes on the simulated stack, which is then `base` entries and `pushed` states more
unfoldable pub push_state : World → ℕ → ℕ → ℕ → World
push_state w base pushed s =
    record { stack = w.stack; scratch = put32 w.scratch (4 * pushed) s; nodes = w.nodes; children = w.children; records = w.records; st = simulating w.st base (pushed + 1) }

unfoldable pub simulate_on : Call → World → ℕ → ℕ → ℕ → World
simulate_on C w base pushed s = need (depth_fits C (base + pushed + 2)) OutOfDepth w (push_state w base pushed s)

unfoldable pub search_look : Call → World → Cell → World
search_look C w (Shift s) = simulate_on C w (w.st.height - w.st.popped) 0 s.0
search_look C w (Reduce p) = further C w
search_look C w Error = further C w

-- the mark over `popped` symbols and the dropped tokens, above `rest` entries
unfoldable pub has_dropped : St → Bool
has_dropped s = ltb s.formed.from s.next

unfoldable pub mark_start : Call → World → ℕ → ℕ
mark_start C w rest =
    pick (eqb w.st.popped 0)
    (pick (has_dropped w.st) (token_start C w.st.formed.from) (end_below C w.stack rest))
    (start_at w.stack rest)

unfoldable pub mark_end : Call → World → ℕ → ℕ
mark_end C w rest =
    pick (has_dropped w.st) (token_end C (w.st.next - 1))
    (pick (eqb w.st.popped 0) (pick (has_token C w.st) (token_start C w.st.next) (mark_start C w rest))
    (end_at w.stack (w.st.height - 1)))

unfoldable pub mark_entry : Call → World → ℕ → Entry
mark_entry C w rest =
    record {
      what = Mark w.st.records;
      start = mark_start C w rest;
      end = mark_end C w rest;
      first = pick (eqb w.st.popped 0) w.st.formed.from (first_at w.stack rest);
      after = w.st.next;
      state = record { 0 = target (action C.tables (top_at w.stack rest) (error_column C.tables)) };
      node = w.st.nodes;
    }

-- the words of a mark's record
unfoldable pub put_record : Tables → List ℕ → ℕ → Formed → Entry → List ℕ
put_record T s i f e =
    put8
    (put8 s (64 * i) f.number f.at e.first e.after f.from e.start e.end (ones_of (expected_words T f.top.0)))
    (64 * i + 32)
    (expected_word T f.top.0 0)
    (expected_word T f.top.0 1)
    (expected_word T f.top.0 2)
    (expected_word T f.top.0 3)
    (expected_word T f.top.0 4)
    (expected_word T f.top.0 5)
    (expected_word T f.top.0 6)
    (expected_word T f.top.0 7)

unfoldable pub marked : Call → World → ℕ → Entry → World
marked C w rest e =
    push w rest e 0 0 w.children (put_record C.tables w.records w.st.records w.st.formed e)
    (grown w.st (rest + 1) 0 1 w.st.next Main)

unfoldable pub place_mark : Call → World → ℕ → World
place_mark C w rest =
    need (nodes_fit w (w.st.nodes + 1)) OutOfNodes w
    (need (records_fit w (w.st.records + 1)) OutOfRecords w (marked C w rest (mark_entry C w rest)))

unfoldable pub recover : Call → World → World
recover C w = place_mark C w (w.st.height - w.st.popped)

-- a simulated reduction pops the pushed states first
unfoldable pub simulate_over : Call → World → ℕ → ℕ → ℕ → World
simulate_over C w p base pushed =
    simulate_on C w base pushed (target (goto C.tables (sim_top w.stack w.scratch base pushed) (left C.tables p)))

unfoldable pub simulate_reduce : Call → World → ℕ → World
simulate_reduce C w zero = recover C w
simulate_reduce C w (suc p) =
    simulate_over C w (suc p) (w.st.base - (size C.tables (suc p) - w.st.pushed)) (w.st.pushed - size C.tables (suc p))

unfoldable pub simulate_look : Call → World → Cell → World
simulate_look C w (Shift s) = recover C w
simulate_look C w (Reduce p) = simulate_reduce C w p.0
simulate_look C w Error = further C w

unfoldable pub look : Call → World → Mode → World
look C w Main = main_look C w (has_token C w.st) (action C.tables (top_at w.stack w.st.height) (look_column C w.st))
look C w Column = column_look C w (action C.tables (top_at w.stack w.st.height) (error_column C.tables))
look C w Search =
    search_look C w (action C.tables (top_at w.stack (w.st.height - w.st.popped)) (error_column C.tables))
look C w Simulate =
    simulate_look C w (action C.tables (sim_top w.stack w.scratch w.st.base w.st.pushed) (look_column C w.st))
look C w Ended = w

unfoldable pub step : Call → World → World
step C w = look C (with_st w (counted w.st)) w.st.mode

-- the fuel is the budget that is left
abbrev pub is_ended : Mode → Bool
is_ended Main = false
is_ended Column = false
is_ended Search = false
is_ended Simulate = false
is_ended Ended = true

unfoldable pub run_from : Call → ℕ → World → World
run_from C zero w = w
run_from C (suc n) w = elim (is_ended w.st.mode) [ true ↦ w | false ↦ run_from C n (step C w) ]

abbrev pub no_formed : Formed
no_formed = record { number = 0; at = 0; from = 0; top = record { 0 = 0 } }

unfoldable pub first_st : Call → St
first_st C =
    record { height = 0; nodes = 0; children = 0; records = 0; units = 0; next = 0; last = C.origin; mode = Main; formed = no_formed; popped = 0; base = 0; pushed = 0; answer = OutOfUnits }

unfoldable pub begin : Call → St
begin C = pick (depth_fits C 1) (arrived C (first_st C) 0) (ended (first_st C) OutOfDepth)
