-- The readers are counted where a batch was attached.
use Rattle.std.proofs.Common.{◌≡◌, ◌≢◌, ℕ, ◌+◌, ◌<◌, List, length, take, Contains, refl, ap, sym, ◌∙◌, subst, inl, arith}
use Rattle.std.proofs.lemmas.Option.{same_Some}
use Rattle.std.proofs.lemmas.List.{take_all}
use Rattle.fixed_box.specs.FixBox.{words_of}
use Rattle.scene_model.specs.declared.entry.Made.{Made}
use Rattle.scene_model.specs.Scene.{Scene, record_at}
use Rattle.scene_model.specs.Step.{HasBody}
use Rattle.scene_model.specs.History.{scene_after}
use Rattle.word_map.specs.declared.name.Name.TheVariants.{Reader, Child, Bound, LocA, LocB, Slot}
use Rattle.core_state.specs.declared.view.Marked.{Marked}
use Rattle.core_state.specs.Log.{history}
use Rattle.core_state.specs.Core.{Core, word_of, scene_of}
use Rattle.core_state.specs.Encoding.{Sides, sides_of, bound_in}
use Rattle.core_state.specs.Nodes.{Nodes, made, under, IsOfLayer}
use Rattle.core_state.specs.Scope.{Sight, sight}
use Rattle.core_state.specs.Space.{HadInLayer, IsInLayer, IsInHull, IsInSpace}
use Rattle.core_state.specs.ReadersCounted.{ReadersCounted, reader_scope}
use Rattle.core_state.specs.Batches.{IsWholeTree, HasSide, attach}
use Rattle.core_state.proofs.Beginning.{record_body}
use Rattle.core_guard.proofs.Leaving.{Acts, Leaves}
use Rattle.core_guard.proofs.ReadersLeft.{some-all, Counts, KeepsLayer, KeepsTargets, layers-kept, gives-kept, climbs-own, ReadersCounted-leaves}
use Rattle.core_batch.proofs.Attaching.{Attaching, step_of, whole_now, joining}
use Rattle.core_batch.proofs.Attached.{nodes_after, home-inside, past-after, scene_then, becomes, becomes-forth, core_after, word-other}

-- a box lies in a hull also where its six sides count for more
hull-sides : (Counts More : ℕ → ℕ → Type 0) (b : Sides) → ((q side : ℕ) → q < 6 → Counts q side → More q side) → IsInHull Counts b → IsInHull More b
hull-sides Counts More b more h q below =
    let t = h q below in
    ((t.0.0, more q t.0.0 (omega arith) t.0.1, t.0.2), (t.1.0, more (3 + q) t.1.0 (omega arith) t.1.1, t.1.2))

module _ (core : Core) (a : Attaching core) (acts : Acts core (step_of core a))
    (m : Leaves attach core (step_of core a) acts.laws.nodes (nodes_after acts.laws.nodes core a) (λ n. Contains a.batch.nodes n)) where
  abbrev Later : Nodes
  Later = nodes_after acts.laws.nodes core a

  abbrev Old : Sight
  Old = sight reader_scope core

  abbrev Now : Sight
  Now = sight reader_scope (core_after core a)

  abbrev InBatch : ℕ → Type 0
  InBatch n = Contains a.batch.nodes n

  abbrev Whole : IsWholeTree (word_of core) a.batch a.root
  Whole = whole_now core a acts.formed acts.laws acts.guards

  -- ---- bodies

  keeps-layer : (i : ℕ) → KeepsLayer attach core (step_of core a) acts Later InBatch m i
  keeps-layer i g l body =
      subst (λ (past : List Made). HasBody (scene_after core.config.bodies past) i (λ r. (r.generation ≡ g) × (r.layer ≡ l))) (sym (past-after core a acts.formed acts.laws))
      (becomes-forth core a i (λ r. (r.generation ≡ g) × (r.layer ≡ l)) (λ r. (r.generation ≡ g) × (r.layer ≡ l)) (record_at (scene_of core) i) (record_at (scene_then core a) i)
      (becomes core a acts.formed acts.laws acts.guards i) (λ r held e. e) (λ r e. e) body)

  keeps : KeepsTargets attach core (step_of core a) acts Later InBatch m
  keeps = record { targets = λ index q side target. inl target; bodies = λ seat number view at pass i handled. keeps-layer i }

  in-layer : (l q side : ℕ) → IsInLayer Old l q side → IsInLayer Now l q side
  in-layer = layers-kept attach core (step_of core a) acts Later InBatch m keeps

  -- ---- bounds of the batch

  -- the box of a joining body is one that a body of the layer has
  joined-had : (k : Marked) → Contains a.batch.marked k → (box : Sides) × HadInLayer Old a.layer box × ((q : ℕ) → q < 6 → box q ≡ sides_of k.bounds q)
  joined-had k marked =
      let j = joining core a acts.formed acts.laws acts.guards k marked in
      let past = history core.log in
      let now : scene_of core ≡ scene_after core.config.bodies (take (length past) past) = ap (scene_after core.config.bodies) (sym (take_all (length past) past (omega arith))) in
      let body = record_body (record_at (scene_of core) k.index) (λ r. (r.layer ≡ a.layer) × (sides_of (words_of j.body.bounds) ≡ sides_of (words_of r.bounds))) j.body j.live (j.in_layer, refl) in (
        sides_of (words_of j.body.bounds),
        (
          length past,
          k.index,
          omega arith,
          subst (λ (scene : Scene). HasBody scene k.index (λ r. (r.layer ≡ a.layer) × (sides_of (words_of j.body.bounds) ≡ sides_of (words_of r.bounds)))) now body,
        ),
        j.bounds,
      )

  side-forth : (q side : ℕ) → q < 6 → HasSide a.batch q side → IsInLayer Now a.layer q side
  side-forth q side below has = let t = joined-had has.0 has.1 in in-layer a.layer q side (inl (t.0, t.1, t.2 q below ∙ has.2))

  bound_same : (n k q : ℕ) → word_of (core_after core a) (Bound n k q) ≡ word_of core (Bound n k q)
  bound_same n k q = word-other core a (Bound n k q) (λ e. absurd cc)

  new-bounds : (n k l : ℕ) → InBatch n → IsOfLayer l (Later.home n) → k < 4 → Now.word (Child n k) ≢ 0 → IsInSpace Now l (bound_in Now.word n k)
  new-bounds n k l inside layer below full =
      let same : a.layer ≡ l = same_Some a.layer l (subst (IsOfLayer l) (home-inside acts.laws.nodes core a n inside) layer) in
      subst (λ (x : ℕ). IsInSpace Now x (bound_in Now.word n k)) same
      (subst (λ (b : Sides). IsInSpace Now a.layer b) (λ i q. sym (bound_same n k q) i)
      (hull-sides (HasSide a.batch) (IsInLayer Now a.layer) (bound_in (word_of core) n k) side-forth
      (Whole.tight n k inside below (λ none. full (word-other core a (Child n k) (λ e. absurd cc) ∙ none)))))

  -- ---- the law

  loc_same : (i : ℕ) → (word_of (core_after core a) (LocA i) ≡ word_of core (LocA i)) × (word_of (core_after core a) (LocB i) ≡ word_of core (LocB i))
  loc_same i = (word-other core a (LocA i) (λ e. absurd cc), word-other core a (LocB i) (λ e. absurd cc))

  counts : Counts attach core (step_of core a) acts Later InBatch m
  counts = record {
    places = λ seat number view apart at pass i handled. loc_same i;
    climbs = climbs-own attach core (step_of core a) acts Later InBatch m refl (λ i handled. loc_same i);
    layers = in-layer;
    gives = gives-kept attach core (step_of core a) acts Later InBatch m keeps;
    live = λ n k q l live layer. inl (bound_same n k q);
    fresh = λ number view among pass. some-all view.rebuild _ (λ r n k q l home. inl (bound_same n k q));
    new = λ n k l inside live layer below full. new-bounds n k l inside layer below full;
    unmade = λ n number l inside home. let e : under (Slot a.layer a.slot) ≡ made number l = sym (home-inside acts.laws.nodes core a n inside) ∙ home in absurd cc;
  }

  pub ReadersCounted-attach : ReadersCounted Later (core_after core a)
  ReadersCounted-attach =
      ReadersCounted-leaves attach core (step_of core a) acts Later InBatch m counts (record { reader = λ p. word-other core a (Reader p) (λ e. absurd cc); walk = refl })
