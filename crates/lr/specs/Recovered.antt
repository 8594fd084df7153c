-- What an accepted run leaves, early or not: the tree at the root lies side by side over all tokens that were read, and its marks ascend.
-- It is read off the step that accepts, where the stack is one symbol whose range is from 0 to the lookahead.
use Rattle.std.specs.Prelude.{◌≡◌, refl, false, List, [], ◌∷◌, ℕ, zero, suc, ◌≤◌, ◌<◌, eqb, length}
use Rattle.std.proofs.Common.{sym, ap, ◌∙◌, subst, arith}
use Rattle.words.specs.Laws.{pick_case}
use Rattle.rules.specs.declared.Entry.{Entry}
use Rattle.rules.specs.declared.Formed.{Formed}
use Rattle.rules.specs.declared.Answer.{Answer}
use Rattle.rules.specs.declared.Answer.TheVariants.{Accepted, AcceptedEarly, UnrecognizedToken, UnrecognizedEnd, ExtraToken, TokenizerError, OutOfUnits, OutOfDepth, OutOfChildren, OutOfNodes, OutOfRecords}
use Rattle.rules.specs.Answers.{number_of}
use Rattle.rules.specs.Driving.{Job, Run, Mode, Outcome, counted, has_token, answer_of, arrive, first_run, begin}
use Rattle.rules.specs.Trees.{leaves, tree_at}
use Rattle.lr.specs.Each.{Each}
use Rattle.lr.specs.Built.{built_tree}
use Rattle.lr.specs.Invariant.{Stops, Does, Reaches, arrive_keeps}
use Rattle.lr.specs.Runs.{Holds, need_case, walk, walk_snoc, not_past_done, Reached}
use Rattle.lr.specs.Ranges.{Joined}
use Rattle.lr.specs.Tiles.{TilesT}
use Rattle.lr.specs.Tiled.{EntryTiles, NodeSays, Tiled, tiled_reached}
use Rattle.lr.specs.Ordered.{Ascends, marks_ascend, Stacked, Ordered, ordered_reached}

-- the run from which this answer was given: the stack is one symbol, the root's
abbrev pub AcceptsFrom : Job → Run → Answer → Run → Type 0
AcceptsFrom J s (Accepted root) r =
    (e : Entry) × (s.mode ≡ Mode.main) × (has_token J s ≡ false) × (s.stack ≡ e ∷ []) × (e.node ≡ root) × (r ≡ counted s)
AcceptsFrom J s (AcceptedEarly root i) r =
    (e : Entry) × (f : Formed) × (s.mode ≡ Mode.column f) × (s.stack ≡ e ∷ []) × (e.node ≡ root) × (f.from ≡ i) × (r ≡ counted s)
AcceptsFrom J s (UnrecognizedToken i t) r = Unit {0}
AcceptsFrom J s (UnrecognizedEnd l t) r = Unit {0}
AcceptsFrom J s (ExtraToken i) r = Unit {0}
AcceptsFrom J s (TokenizerError i) r = Unit {0}
AcceptsFrom J s OutOfUnits r = Unit {0}
AcceptsFrom J s OutOfDepth r = Unit {0}
AcceptsFrom J s OutOfChildren r = Unit {0}
AcceptsFrom J s OutOfNodes r = Unit {0}
AcceptsFrom J s OutOfRecords r = Unit {0}

abbrev pub From : Job → Run → Outcome → Type 0
From J s o = Holds (λ r. Unit {0}) (AcceptsFrom J s) o

stopped_from : (J : Job) (s : Run) (a : Answer) (r : Run) → Stops a → AcceptsFrom J s a r
stopped_from J s (Accepted root) r h = absurd h
stopped_from J s (AcceptedEarly root i) r h = absurd h
stopped_from J s (UnrecognizedToken i t) r h = tt
stopped_from J s (UnrecognizedEnd l t) r h = tt
stopped_from J s (ExtraToken i) r h = tt
stopped_from J s (TokenizerError i) r h = tt
stopped_from J s OutOfUnits r h = tt
stopped_from J s OutOfDepth r h = tt
stopped_from J s OutOfChildren r h = tt
stopped_from J s OutOfNodes r h = tt
stopped_from J s OutOfRecords r h = tt

error_from : (J : Job) (s : Run) (f : Formed) (r : Run) → AcceptsFrom J s (answer_of f) r
unfolding answer_of
error_from J s f r = pick_case (λ (a : Answer). AcceptsFrom J s a r) (eqb f.number 3) _ _ (λ e. tt) (λ e. tt)

pub accepts_from : (J : Job) (s : Run) (o : Outcome) → Does J s o → From J s o
accepts_from J s o (Does.stops {a = a} h) = stopped_from J s a (counted s) h
accepts_from J s o (Does.shifts e h a) = arrive_keeps (From J s) J _ tt (λ l. tt) tt (λ l. tt)
accepts_from J s o (Does.reduces e l d) = tt
accepts_from J s o (Does.accepts {e = e} m h q x) = (e, m, h, q, refl, refl)
accepts_from J s o (Does.extra m h q) = tt
accepts_from J s o (Does.refuses m h) = error_from J s _ (counted s)
accepts_from J s o (Does.forms m h) = tt
accepts_from J s o (Does.early {f = f} {e = e} m q x) = (e, f, m, q, refl, refl, refl)
accepts_from J s o (Does.turns f c d m) = tt
accepts_from J s o (Does.drops f c h) = arrive_keeps (From J s) J _ tt (λ l. tt) tt (λ l. tt)
accepts_from J s o (Does.gives_up f c h) = error_from J s f (counted s)
accepts_from J s o (Does.marks f k c l a) = tt

-- ---- over passing tables

-- the runs that some number of steps leads to are those that a job comes to, look by look
reaches_of : (J : Job) (n : ℕ) (r : Run) (o : Outcome) → walk J n (begin J) ≡ o → ((s : Run) → o ≡ Outcome.more s → Reaches J s)
    → walk J (suc n) (begin J) ≡ Outcome.more r
    → Reaches J r
reaches_of J n r (Outcome.more s) w before e = Reaches.goes (before s refl) (sym (walk_snoc J n (begin J) s w) ∙ e)
reaches_of J n r (Outcome.done a s) w before e = absurd (not_past_done J n (suc n) a s r w e (omega arith))

reaches_in : (J : Job) (n : ℕ) (r : Run) → walk J n (begin J) ≡ Outcome.more r → Reaches J r
unfolding walk
reaches_in J zero r e = Reaches.begins e
reaches_in J (suc n) r e = reaches_of J n r (walk J n (begin J)) refl (λ s w. reaches_in J n s w) e

pub reached_reaches : {J : Job} {r : Run} → Reached J r → Reaches J r
reached_reaches {J} {r} w = reaches_in J w.steps r w.reached

pub reaches_reached : {J : Job} {r : Run} → Reaches J r → Reached J r
unfolding walk
reaches_reached (Reaches.begins e) = record { steps = 0; reached = e }
reaches_reached {J} (Reaches.goes {r = r} h e) =
    let w = reaches_reached h in
    record { steps = suc w.steps; reached = walk_snoc J w.steps (begin J) r w.reached ∙ e }

-- a run that ends before its first look accepts nothing
pub begin_not : (J : Job) → Holds (λ r. Unit {0}) (λ a r. 3 ≤ number_of a) (begin J)
unfolding begin
begin_not J =
    need_case (λ o. Holds (λ r. Unit {0}) (λ a r. 3 ≤ number_of a) o) (J.depth_fits 1) OutOfDepth (first_run J) (arrive J (first_run J)) (λ e. omega arith) (λ e.
    arrive_keeps (λ o. Holds (λ r. Unit {0}) (λ a r. 3 ≤ number_of a) o) J (first_run J) tt (λ l. tt) (omega arith) (λ l. omega arith))

-- the root's tree over the tokens from 0 up to `to`, and what each node says
pub record RootOver (J : Job) (r : Run) (root to : ℕ) : Type 0 where
  pub tiles : TilesT (tree_at r.nodes r.children root) r.marks 0 to
  pub ascends : Ascends (leaves (tree_at r.nodes r.children root)) 0
  pub says : Each (NodeSays r.marks) r.nodes

whole_stack : (r : Run) (e : Entry) (to : ℕ) → r.stack ≡ e ∷ [] → Joined r.stack to → Tiled r
    → TilesT (tree_at r.nodes r.children e.node) r.marks 0 to
whole_stack r e to q j h =
    let g : EntryTiles r.nodes r.children r.marks e = (subst (Each (EntryTiles r.nodes r.children r.marks)) q h.entries).0 in
    let k : Joined (e ∷ []) to = subst (λ (x : List Entry). Joined x to) q j in
    tiles_of g k
  where
    tiles_of : EntryTiles r.nodes r.children r.marks e → Joined (e ∷ []) to → TilesT (tree_at r.nodes r.children e.node) r.marks 0 to
    tiles_of g k = rw (built_tree g.built, ← k.0, ← k.2) g.tiles

marks_stack : (r : Run) (e : Entry) → r.stack ≡ e ∷ [] → Ordered r → Ascends (leaves (tree_at r.nodes r.children e.node)) 0
marks_stack r e q h =
    ascend_of (subst (λ (x : List Entry). Stacked r.nodes r.children x (length r.marks)) q h)
  where
    ascend_of : Stacked r.nodes r.children (e ∷ []) (length r.marks) → Ascends (leaves (tree_at r.nodes r.children e.node)) 0
    ascend_of g = rw (built_tree g.1.built) (marks_ascend g.1.tree g.0 (length r.marks) g.1.numbers)

pub small_not_units : (a : Answer) → number_of a < 3 → a ≡ OutOfUnits → ⊥
small_not_units a small q = let n : number_of a ≡ 19 = ap number_of q in omega arith

pub whole_of : (J : Job) (s r : Run) (e : Entry) (root to : ℕ) → Reached J s → s.stack ≡ e ∷ [] → Joined s.stack to → e.node ≡ root → r ≡ counted s
    → RootOver J r root to
whole_of J s r e root to w q j n same =
    let h = tiled_reached J s w in
    let here : RootOver J (counted s) e.node to = record { tiles = whole_stack s e to q j h; ascends = marks_stack s e q (ordered_reached J s w); says = h.says } in
    subst (λ (x : Run). RootOver J x root to) (sym same) (subst (λ (i : ℕ). RootOver J (counted s) i to) n here)
