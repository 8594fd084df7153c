-- Numbers and slices serve some call: so a contract that speaks of every call they serve speaks of one.
use Rattle.std.specs.Prelude.{Bool, true, false, List, [], ◌∷◌, ◌≡◌, refl, ℕ, ◌+◌, ◌*◌, ◌/◌, ◌%◌, eqb}
use native.Mathlib.Omega.{arith}
use Rattle.words.specs.Words.{pick, word16, get16}
use Rattle.rules.specs.Tables.{states, kinds, nonterminals, flag}
use Rattle.model.specs.Model.{Call}
use Rattle.moves.specs.declared.Given.{Given}
use Rattle.moves.specs.Serving.{Serves}

abbrev pub sizes_of : Given → List ℕ
sizes_of g =
    g.states % 256 ∷ g.states / 256 ∷ g.kinds % 256 ∷ g.kinds / 256 ∷ g.nonterminals % 256 ∷ g.nonterminals / 256
    ∷ 0 ∷ 0 ∷ 0 ∷ 0 ∷ pick g.recovers 1 0 ∷ 0 ∷ []

abbrev pub call_of : Given → Call
call_of g =
    record {
      tables = record {
        sizes = sizes_of g;
        actions = g.actions.now;
        gotos = g.gotos.now;
        productions = g.productions.now;
        rights = [];
        items =
            [];
        sets = [];
      };
      tokens = g.tokens.now;
      count = g.count;
      origin = g.origin;
      depth = g.depth;
    }

module _ (g : Given) where
  abbrev C : Call
  C = call_of g

  states_back : states C.tables ≡ g.states
  unfolding states word16 get16
  states_back = omega arith

  kinds_back : kinds C.tables ≡ g.kinds
  unfolding kinds word16 get16
  kinds_back = omega arith

  nonterminals_back : nonterminals C.tables ≡ g.nonterminals
  unfolding nonterminals word16 get16
  nonterminals_back = omega arith

  bit_back : (b : Bool) → eqb (pick b 1 0 + 0 * 256) 1 ≡ b
  bit_back true = refl
  bit_back false = refl

  flag_back : eqb (flag C.tables) 1 ≡ g.recovers
  unfolding flag word16 get16
  flag_back = bit_back g.recovers

  pub served : Serves C g
  served =
      record {
        reads = record {
          tokens_are = refl;
          count_is = refl;
          origin_is = refl;
          depth_is = refl;
          kinds_are = kinds_back;
          flag_is = flag_back;
        };
        goes = record {
          gotos_are = refl;
          productions_are = refl;
          states_are = states_back;
          nonterminals_are = nonterminals_back;
        };
        acts = record { actions_are = refl; states_are = states_back; kinds_are = kinds_back };
      }
