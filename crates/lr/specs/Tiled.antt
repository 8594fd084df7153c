-- Along every run each symbol on the stack has a tree that lies side by side over its token range, and each node says its own
-- tokens: a reduction's range is that of the symbols that it pops, whose ranges join (`Ranges`).
use Rattle.std.specs.Prelude.{◌≡◌, ℕ, zero, suc, ◌+◌, ◌≤◌, ◌<◌, take, drop}
use Rattle.std.proofs.Math.Path.{refl}
use Rattle.std.proofs.Common.{subst, arith}
use mathlib.Core.List.{List, [], ◌∷◌, ◌++◌, map, reverse_aux}
use Rattle.std.proofs.Math.Decide.{dec_lt}
use Rattle.std.proofs.Math.ListN.{length, length-append, get_or-append}
use Rattle.std.proofs.Math.Seq.{get_or-append_seam}
use Rattle.rules.specs.declared.StateNo.{StateNo}
use Rattle.rules.specs.declared.What.{What}
use Rattle.rules.specs.declared.What.TheVariants.{Read, Mark, Production}
use Rattle.rules.specs.declared.Entry.{Entry}
use Rattle.rules.specs.declared.Formed.{Formed}
use Rattle.rules.specs.Tables.{size}
use Rattle.rules.specs.Driving.{Job, Run, Mode, Marked, Node, node_of, nodes_of, first_or, after_or, grow, token_entry, production_entry, marked, mark_entry, begin}
use Rattle.rules.specs.Trees.{Tree, Forest, Leaf, no_node}
use Rattle.lr.specs.Each.{Each, each_drop, each_append, each_map}
use Rattle.lr.specs.Built.{node_at, Built, BuiltAll, built_below, still_built, push_token, push_mark, push_production}
use Rattle.lr.specs.Steps.{shifted, reduced, recovered, record_of}
use Rattle.lr.specs.Runs.{Holds, walk, Reached}
use Rattle.lr.specs.Ranges.{Joined, pop, first_cons, pushed_walk, pushed_reached}
use Rattle.lr.specs.Tiles.{no_mark, mark_at, TilesT, TilesF, tiles_more}

-- the tree at an entry's node lies over the entry's range
pub record EntryTiles (ns : List Node) (cs : List ℕ) (ms : List Marked) (e : Entry) : Type 0 where
  pub tree : Tree Leaf
  pub built : Built ns cs e.node tree
  pub tiles : TilesT tree ms e.first e.after

-- a token's node holds that token; a mark's node holds its record's stretch and span
abbrev pub WordsSay : List Marked → What → ℕ → ℕ → ℕ → ℕ → Type 0
WordsSay ms (Read i) first after start end = (first ≡ i) × (after ≡ i + 1)
WordsSay ms (Mark i) first after start end =
    (i < length ms) × ((mark_at ms i).first ≡ first) × ((mark_at ms i).after ≡ after) × ((mark_at ms i).start ≡ start) × ((mark_at ms i).end ≡ end)
WordsSay ms (Production p) first after start end = Unit {0}

abbrev pub NodeSays : List Marked → Node → Type 0
NodeSays ms n = WordsSay ms n.what n.first n.after n.start n.end

-- the tree at a node lies over the node's range
pub record NodeTiles (ns : List Node) (cs : List ℕ) (ms : List Marked) (i : ℕ) : Type 0 where
  pub tree : Tree Leaf
  pub built : Built ns cs i tree
  pub tiles : TilesT tree ms (node_at ns i).first (node_at ns i).after

pub record TiledOf (ns : List Node) (cs : List ℕ) (ms : List Marked) (stack : List Entry) : Type 0 where
  pub entries : Each (EntryTiles ns cs ms) stack
  pub says : Each (NodeSays ms) ns
  pub ranged : (i : ℕ) → i < length ns → NodeTiles ns cs ms i

abbrev pub Tiled : Run → Type 0
Tiled r = TiledOf r.nodes r.children r.marks r.stack

nothing_tiled : TiledOf [] [] [] []
nothing_tiled = record { entries = tt; says = tt; ranged = λ i l. absurd (omega arith) }

-- ---- what was there stays

says_more : (ms more : List Marked) (w : What) (a b c d : ℕ) → WordsSay ms w a b c d → WordsSay (ms ++ more) w a b c d
says_more ms more (Read i) a b c d h = h
says_more ms more (Mark i) a b c d h =
    let l = h.0 in
    let same = get_or-append ms more no_mark i l in
    (rw length-append (omega arith), rw same h.1, rw same h.2, rw same h.3, rw same h.4)
says_more ms more (Production p) a b c d h = tt

entry_more : (ns more-ns : List Node) (cs more-cs : List ℕ) (ms more-ms : List Marked) (e : Entry) → EntryTiles ns cs ms e
    → EntryTiles (ns ++ more-ns) (cs ++ more-cs) (ms ++ more-ms) e
entry_more ns more-ns cs more-cs ms more-ms e h =
    record {
      tree = h.tree;
      built = still_built h.built more-ns more-cs;
      tiles = tiles_more h.tree ms more-ms e.first e.after h.tiles;
    }

node_more : (ns more-ns : List Node) (cs more-cs : List ℕ) (ms more-ms : List Marked) (i : ℕ) → i < length ns → NodeTiles ns cs ms i
    → NodeTiles (ns ++ more-ns) (cs ++ more-cs) (ms ++ more-ms) i
node_more ns more-ns cs more-cs ms more-ms i l h =
    record {
      tree = h.tree;
      built = still_built h.built more-ns more-cs;
      tiles = rw (get_or-append ns more-ns no_node i l) (tiles_more h.tree ms more-ms (node_at ns i).first (node_at ns i).after h.tiles);
    }

-- the node of the entry that is pushed is the last one
node_last : (ns : List Node) (n : Node) (cs : List ℕ) (ms : List Marked) (e : Entry) → n.first ≡ e.first → n.after ≡ e.after → e.node ≡ length ns
    → EntryTiles (ns ++ (n ∷ [])) cs ms e → NodeTiles (ns ++ (n ∷ [])) cs ms (length ns)
node_last ns n cs ms e p q at h =
    let seam : node_at (ns ++ (n ∷ [])) (length ns) ≡ n = get_or-append_seam ns n [] no_node in
    record {
      tree = h.tree;
      built = subst (λ (i : ℕ). Built (ns ++ (n ∷ [])) cs i h.tree) at h.built;
      tiles = rw (seam, p, q) h.tiles;
    }

nodes_more : (ns : List Node) (n : Node) (cs more-cs : List ℕ) (ms more-ms : List Marked) → ((i : ℕ) → i < length ns → NodeTiles ns cs ms i)
    → NodeTiles (ns ++ (n ∷ [])) (cs ++ more-cs) (ms ++ more-ms) (length ns) → (i : ℕ) → i < length (ns ++ (n ∷ []))
    → NodeTiles (ns ++ (n ∷ [])) (cs ++ more-cs) (ms ++ more-ms) i
nodes_more ns n cs more-cs ms more-ms old last i h = by_place (dec_lt i (length ns))
  where
    by_place : Dec (i < length ns) → NodeTiles (ns ++ (n ∷ [])) (cs ++ more-cs) (ms ++ more-ms) i
    by_place (yes l) = node_more ns (n ∷ []) cs more-cs ms more-ms i l (old i l)
    by_place (no l) =
        let len = length-append ns (n ∷ []) in
        let q : length ns ≡ i = omega arith in
        subst (λ (j : ℕ). NodeTiles (ns ++ (n ∷ [])) (cs ++ more-cs) (ms ++ more-ms) j) q last

-- every push: the new entry's tree lies over its range, and its node says its tokens
tiled_grow : (r : Run) (rest : List Entry) (e : Entry) (kids : List ℕ) (marks : List Marked) (m : Mode) → Tiled r
    → Each (EntryTiles r.nodes r.children r.marks) rest
    → EntryTiles (r.nodes ++ (node_of e (length r.children) kids ∷ [])) (r.children ++ kids) (r.marks ++ marks) e
    → e.node ≡ length r.nodes → WordsSay (r.marks ++ marks) e.what e.first e.after e.start e.end → Tiled (grow r rest e kids marks m)
unfolding grow node_of
tiled_grow r rest e kids marks m h below here at said =
    record {
      entries = (here, each_map (EntryTiles r.nodes r.children r.marks) (EntryTiles (r.nodes ++ (node_of e (length r.children) kids ∷ [])) (r.children ++ kids) (r.marks ++ marks)) (λ x g. entry_more r.nodes (node_of e (length r.children) kids ∷ []) r.children kids r.marks marks x g) rest below);
      says = each_append (NodeSays (r.marks ++ marks)) r.nodes (node_of e (length r.children) kids ∷ []) (each_map (NodeSays r.marks) (NodeSays (r.marks ++ marks)) (λ n g. says_more r.marks marks n.what n.first n.after n.start n.end g) r.nodes h.says) (said, tt);
      ranged = nodes_more r.nodes (node_of e (length r.children) kids) r.children kids r.marks marks h.ranged (node_last r.nodes (node_of e (length r.children) kids) (r.children ++ kids) (r.marks ++ marks) e refl refl at here);
    }

-- ---- the popped symbols' trees, side by side

pub record Gathered (ns : List Node) (cs : List ℕ) (ms : List Marked) (is : List ℕ) (a b : ℕ) : Type 0 where
  pub forest : Forest Leaf
  pub built : BuiltAll ns cs (length ns) is forest
  pub tiles : TilesF forest ms a b

gather : (ns : List Node) (cs : List ℕ) (ms : List Marked) (n : ℕ) (stack : List Entry) (to : ℕ) → Joined stack to → Each (EntryTiles ns cs ms) stack
    → (is : List ℕ) (b : ℕ) → Gathered ns cs ms is to b
    → Gathered ns cs ms (reverse_aux (map (λ (e : Entry). e.node) (take n stack)) is) (first_or to (take n stack)) b
gather ns cs ms zero stack to j h is b g = g
gather ns cs ms (suc n) [] to j h is b g = g
gather ns cs ms (suc n) (e ∷ rest) to j h is b g =
    rw (first_cons to e (take n rest))
    (gather ns cs ms n rest e.first j.2 h.1 (e.node ∷ is) b
    (record { forest = Forest.cons h.0.tree g.forest; built = BuiltAll.then (built_below h.0.built) h.0.built g.built; tiles = (e.after, h.0.tiles, rw j.0 g.tiles) }))

module _ (J : Job) where
  tiled_shifted : (r : Run) (s : StateNo) → Tiled r → Tiled (shifted J r s)
  unfolding token_entry
  tiled_shifted r s h =
      let g = tiled_grow r r.stack (token_entry J r s) [] [] Mode.main h h.entries (record { tree = Tree.leaf (Leaf.token r.next); built = push_token r.nodes r.children (token_entry J r s) r.next refl; tiles = (refl, refl) }) refl (refl, refl) in
      record { entries = g.entries; says = g.says; ranged = g.ranged }

  reduced_over : (r : Run) (p n : ℕ) (m : Mode) → Tiled r
      → Gathered r.nodes r.children r.marks (nodes_of (take n r.stack)) (first_or r.next (take n r.stack)) r.next
      → after_or r.next (take n r.stack) ≡ r.next
      → Tiled (grow r (drop n r.stack) (production_entry J r p (take n r.stack) (drop n r.stack)) (nodes_of (take n r.stack)) [] m)
  unfolding production_entry
  reduced_over r p n m h g after =
      tiled_grow r (drop n r.stack) (production_entry J r p (take n r.stack) (drop n r.stack)) (nodes_of (take n r.stack)) [] m h (each_drop (EntryTiles r.nodes r.children r.marks) n r.stack h.entries)
      (record {
        tree = Tree.branch p g.forest;
        built = push_production r.nodes r.children (production_entry J r p (take n r.stack) (drop n r.stack)) p (nodes_of (take n r.stack)) g.forest refl g.built;
        tiles = rw after (tiles_more (Tree.branch p g.forest) r.marks [] (first_or r.next (take n r.stack)) r.next g.tiles);
      }) refl tt

  tiled_reduced : (r : Run) (p : ℕ) (m : Mode) → Joined r.stack r.next → Tiled r → Tiled (reduced J r p m)
  tiled_reduced r p m j h =
      reduced_over r p (size J.tables p) m h
      (gather r.nodes r.children r.marks (size J.tables p) r.stack r.next j h.entries [] r.next (record { forest = Forest.nil; built = BuiltAll.none; tiles = refl }))
      (pop (size J.tables p) r.stack r.next j).after

  tiled_recovered : (r : Run) (f : Formed) (k : ℕ) → Joined r.stack f.from → f.from ≤ r.next → Tiled r → Tiled (recovered J r f k)
  unfolding mark_entry marked
  tiled_recovered r f k j onward h =
      let q = pop k r.stack f.from j in
      let o = q.ordered in
      let m : Marked = record_of J r f k in
      let seam : mark_at (r.marks ++ (m ∷ [])) (length r.marks) ≡ m = get_or-append_seam r.marks m [] no_mark in
      let less : length r.marks < length (r.marks ++ (m ∷ [])) = rw length-append (omega arith) in
      tiled_grow r (drop k r.stack) (mark_entry J r m (drop k r.stack)) [] (m ∷ []) Mode.main h (each_drop (EntryTiles r.nodes r.children r.marks) k r.stack h.entries)
      (record {
        tree = Tree.leaf (Leaf.mark (length r.marks));
        built = push_mark r.nodes r.children (mark_entry J r m (drop k r.stack)) (length r.marks) refl;
        tiles = (less, rw seam refl, rw seam refl, omega arith);
      }) refl (less, rw seam refl, rw seam refl, rw seam refl, rw seam refl)

  -- after any number of steps
  pub tiled_walk : (n : ℕ) → Holds Tiled (λ a r. Tiled r) (walk J n (begin J))
  tiled_walk n = pushed_walk J TiledOf nothing_tiled tiled_shifted tiled_reduced tiled_recovered n

  pub tiled_reached : (r : Run) → Reached J r → Tiled r
  tiled_reached r w = pushed_reached J TiledOf nothing_tiled tiled_shifted tiled_reduced tiled_recovered r w
