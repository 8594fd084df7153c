-- The code holds a call as slices and numbers: here is when these serve a call of the byte model. A contract speaks of every call
-- that they serve, so that it says nothing of the slices that a run does not read (right sides, items, sets).
use Rattle.std.specs.Prelude.{Option, None, Some, true, false, List, ◌≡◌, ℕ, ◌+◌, ◌*◌, ◌<◌, ◌≤◌, eqb, ltb, leb}
use Rattle.std.proofs.Common.{lt-ltb, le-ltb, le-leb}
use Rattle.std.proofs.lemmas.Bool.{lt-leb}
use Rattle.words.specs.Words.{word16}
use Rattle.rules.specs.declared.Token.{Token}
use Rattle.rules.specs.Tables.{states, kinds, nonterminals, flag, action, goto, left, size}
use Rattle.tables.specs.Readers.{cell_in}
use Rattle.model.specs.declared.St.{St}
use Rattle.model.specs.Model.{Call, World, has_token, token_kind, token_start, token_end}
use Rattle.moves.specs.declared.Given.{Given}

-- tokens, and the call's own numbers
pub record Reads (C : Call) (g : Given) : Type 0 where
  pub tokens_are : C.tokens ≡ g.tokens.now
  pub count_is : C.count ≡ g.count
  pub origin_is : C.origin ≡ g.origin
  pub depth_is : C.depth ≡ g.depth
  pub kinds_are : kinds C.tables ≡ g.kinds
  pub flag_is : eqb (flag C.tables) 1 ≡ g.recovers

-- gotos and productions
pub record Goes (C : Call) (g : Given) : Type 0 where
  pub gotos_are : C.tables.gotos ≡ g.gotos.now
  pub productions_are : C.tables.productions ≡ g.productions.now
  pub states_are : states C.tables ≡ g.states
  pub nonterminals_are : nonterminals C.tables ≡ g.nonterminals

-- actions
pub record Acts (C : Call) (g : Given) : Type 0 where
  pub actions_are : C.tables.actions ≡ g.actions.now
  pub states_are : states C.tables ≡ g.states
  pub kinds_are : kinds C.tables ≡ g.kinds

-- all of it
pub record Serves (C : Call) (g : Given) : Type 0 where
  pub reads : Reads C g
  pub goes : Goes C g
  pub acts : Acts C g

-- is there a lookahead token?
pub has_token_law : {C : Call} {g : Given} → Reads C g → (n : ℕ) → n < g.count → ltb n C.count ≡ true
has_token_law {g} m n h = rw m.count_is (lt-ltb n g.count h)

pub no_token_law : {C : Call} {g : Given} → Reads C g → (n : ℕ) → g.count ≤ n → ltb n C.count ≡ false
no_token_law {g} m n h = rw m.count_is (le-ltb n g.count h)

-- the limit on depth
pub depth_fits_law : {C : Call} {g : Given} → Reads C g → (n : ℕ) → n ≤ g.depth → leb n C.depth ≡ true
depth_fits_law {g} m n h = rw m.depth_is (le-leb n g.depth h)

pub too_deep : {C : Call} {g : Given} → Reads C g → (n : ℕ) → g.depth < n → leb n C.depth ≡ false
too_deep {g} m n h = rw m.depth_is (lt-leb n g.depth h)

-- the rules' readers over the slices
pub action_is : {C : Call} {g : Given} → Acts C g → (s c : ℕ) → action C.tables s c ≡
    cell_in g.actions.now g.states (g.kinds + 2) s c
unfolding action cell_in
action_is m s c = rw (← m.actions_are, ← m.states_are, ← m.kinds_are)

pub goto_is : {C : Call} {g : Given} → Goes C g → (s j : ℕ) →
    goto C.tables s j ≡ cell_in g.gotos.now g.states g.nonterminals s j
unfolding goto cell_in
goto_is m s j = rw (← m.gotos_are, ← m.states_are, ← m.nonterminals_are)

pub left_is : {C : Call} {g : Given} → Goes C g → (p : ℕ) → left C.tables p ≡
    word16 g.productions.now (4 * p)
unfolding left
left_is m p = rw m.productions_are

pub size_is : {C : Call} {g : Given} → Goes C g → (p : ℕ) → size C.tables p ≡
    word16 g.productions.now (4 * p + 2)
unfolding size
size_is m p = rw m.productions_are

-- the lookahead as the code has it: none at the end of input, and else the token's three words
abbrev pub Ahead : Call → St → Option Token → Type 0
Ahead C s None = has_token C s ≡ false
Ahead C s (Some t) = (has_token C s ≡ true) × (t.kind ≡ token_kind C s.next) × (t.start ≡ token_start C s.next) ×
    (t.end ≡ token_end C s.next)

-- a world, its rooms in the order in which they are lent
abbrev pub world : List ℕ → List ℕ → List ℕ → List ℕ → List ℕ → St → World
world stack scratch nodes children records st =
    record { stack = stack; scratch = scratch; nodes = nodes; children = children; records = records; st = st }
