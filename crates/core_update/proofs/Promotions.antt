-- With the second location of a body its promotion ends, or it is found that the body has none: the update notes that it is
-- promoted, and the body stands where it stood.
use Rattle.std.proofs.Common.{◌≡◌, ◌≢◌, ◌⊎◌, ℕ, ◌<◌, ◌≤◌, [], ◌∷◌, length, Some, None, false, refl, ap, sym, ◌∙◌, subst, inl, inr, arith}
use Rattle.std.specs.Prelude.{Contains}
use Rattle.std.proofs.lemmas.Bool.{cases_eq}
use Rattle.std.proofs.lemmas.List.Elements.{Contains-append_cases}
use Rattle.scene_model.specs.Scene.{Scene}
use Rattle.scene_model.specs.Step.{HasBody}
use Rattle.word_map.specs.declared.name.Name.{Name}
use Rattle.word_map.specs.declared.name.Name.TheVariants.{LocA, LocB, Phase, Main, Slot}
use Rattle.core_state.specs.declared.view.Noted.{Noted}
use Rattle.core_state.specs.declared.view.Rebuild.{Rebuild}
use Rattle.core_state.specs.declared.view.View.{View}
use Rattle.core_state.specs.Core.{Core, word_of}
use Rattle.core_state.specs.Kind.{Kind, Step, log_after, after_step}
use Rattle.core_state.specs.Encoding.{place}
use Rattle.core_state.specs.Nodes.{Nodes, Home, under, superseded}
use Rattle.core_state.specs.Parts.{update_on_places}
use Rattle.core_state.specs.Retiring.{IsToPromote, with_promoted}
use Rattle.core_state.specs.Scope.{Sight, sight}
use Rattle.core_state.specs.Updates.{IsStillMerged}
use Rattle.core_state.specs.LocationsHold.{LocationsHold, location_scope, IsLocation, IsWhere, in_slot, in_main, in_old, in_merged, IsSecond, IsSecondFor, IsPublishedAt}
use Rattle.core_state.proofs.Opening.{only}
use Rattle.core_state.proofs.Steps.{word-step-other}
use Rattle.core_guard.proofs.Leaving.{Acts, After, Last}
use Rattle.core_update.proofs.OwnUpdate.{each-own, has-own, own-has}
use Rattle.core_update.proofs.Promoting.{IsPromoted, swapped}
use Rattle.core_update.proofs.Unmoved.{Unmoved, is_aside, word-same, scene-same, no-second, placed_now-forth, update-forth, LocationsHold-unmoved}

-- two places of one value are one place
pub one-place : (n k m j : ℕ) → k < 4 → j < 4 → place n k ≡ place m j → n ≡ m
one-place n k m j low high e = omega arith

pub main_old : (l p : ℕ) (name : Name) → under (Main l) ≢ superseded p name
main_old l p name e = absurd cc

pub main_slot : (l m t : ℕ) → under (Main l) ≢ under (Slot m t)
main_slot l m t e = absurd cc

module _ (kind : Kind) (core : Core) (step : Step) (a : Acts core step) (i : ℕ) (p : IsToPromote step.view i) where
  abbrev nodes : Nodes
  nodes = a.laws.nodes

  abbrev pub after : Rebuild
  after = with_promoted i p.r

  abbrev Was : Sight
  Was = sight location_scope core

  abbrev Is : Sight
  Is = sight location_scope (After kind core step)

  -- the body has no second location then, and had none, or it was the first one too
  pub record Promotes : Type 0 where
    pub names : step.name ≡ LocB i
    pub plain : (value : ℕ) → kind.entry step.view step.name value ≡ None
    pub last : Last kind core step ≡ record step.view { rebuild = Some after; known = log_after kind core step; joined = None }
    pub none : word_of (After kind core step) (LocB i) ≡ 0
    pub was : (word_of core (LocB i) ≡ 0) ⊎ (IsPromoted kind core step a i p × (word_of core (LocA i) ≡ word_of core (LocB i)))

  module _ (h : Promotes) where
    pub second-else : (j : ℕ) → j ≢ i → word_of (After kind core step) (LocB j) ≡ word_of core (LocB j)
    second-else j apart = word-step-other kind core step (LocB j) (λ e. apart (index-of (e ∙ h.names)))
      where
        index_in : Name → ℕ
        index_in (LocB x) = x
        index_in _ = 0

        index-of : LocB j ≡ LocB i → j ≡ i
        index-of e = ap index_in e

    second-then : (j : ℕ) → (word_of (After kind core step) (LocB j) ≡ word_of core (LocB j)) ⊎ (word_of (After kind core step) (LocB j) ≡ 0)
    second-then j =
        elim (cases_eq j i) [
          | inl same ↦ inr (ap (λ (x : ℕ). word_of (After kind core step) (LocB x)) same ∙ h.none)
          | inr apart ↦ inl (second-else j apart)
        ]

    pub location-forth : (j n k : ℕ) → IsLocation Was j n k → IsLocation Is j n k
    location-forth j n k t = (
      t.0,
      elim (t.1) [
        | inl e ↦ inl (first j ∙ e)
        | inr e ↦
            elim (cases_eq j i) [
              | inl same ↦ inl (first j ∙ at-first same e)
              | inr apart ↦ inr (second-else j apart ∙ e)
            ]
      ],
    )
      where
        first : (x : ℕ) → word_of (After kind core step) (LocA x) ≡ word_of core (LocA x)
        first x = word-step-other kind core step (LocA x) (λ e. apart (e ∙ h.names))
          where
            apart : LocA x ≡ LocB i → ⊥
            apart e = absurd cc

        at-first : j ≡ i → word_of core (LocB j) ≡ place n k → word_of core (LocA j) ≡ place n k
        at-first same e =
            let at = ap (λ (x : ℕ). word_of core (LocB x)) (sym same) ∙ e in
            elim (h.was) [
              | inl none ↦ absurd (omega arith)
              | inr one ↦ ap (λ (x : ℕ). word_of core (LocA x)) same ∙ (one.1 ∙ at)
            ]

    pub unmoved : Unmoved kind core step a p.r after nodes
    unmoved = record {
      update = p.update;
      rebuild = ap (λ (v : View). v.rebuild) h.last;
      aside = ap is_aside h.names;
      plain = h.plain;
      call = ap (λ (v : View). v.call) h.last;
      batches = ap (λ (v : View). v.batches) h.last;
      noted = refl;
      second = second-then;
      location = location-forth;
      stands = λ n stands. stands;
      live = λ n live. live;
    }

    abbrev same : (name : Name) → is_aside name ≡ false → word_of (After kind core step) name ≡ word_of core name
    same = word-same kind core step a p.r after nodes unmoved

    -- a body with a second location that it keeps is another one, or its first one is in the main tree
    pub where-else : (j n k : ℕ) (home : Home) → k < 4 → word_of core (LocA j) ≡ place n k → nodes.home n ≡ home → ((l : ℕ) → under (Main l) ≢ home) → word_of core (LocB j) ≢ 0
        → word_of (After kind core step) (LocB j) ≡ word_of core (LocB j)
    where-else j n k home below at is other some =
        elim (cases_eq j i) [
          | inr apart ↦ second-else j apart
          | inl one ↦
              elim (h.was) [
                | inl none ↦ absurd (some (ap (λ (x : ℕ). word_of core (LocB x)) one ∙ none))
                | inr both ↦
                    let q = both.0 in
                    let place-same : place n k ≡ place q.node q.child = sym at ∙ (ap (λ (x : ℕ). word_of core (LocA x)) one ∙ (both.1 ∙ q.at)) in
                    let node : n ≡ q.node = one-place n k q.node q.child below q.below place-same in
                    absurd (other q.noted.layer (sym q.home ∙ (ap nodes.home (sym node) ∙ is)))
              ]
        ]

    where-forth : (j layer n k : ℕ) → k < 4 → word_of core (LocA j) ≡ place n k → IsWhere nodes Was j layer n → IsWhere nodes Is j layer n
    where-forth j layer n k below at (in_slot t e home second) =
        in_slot t (same (Phase j) refl ∙ e) home (elim second [ inl none ↦ inl (no-second kind core step a p.r after nodes unmoved j none) | inr placed ↦ inr (placed_now-forth kind core step a p.r after nodes unmoved j placed) ])
    where-forth j layer n k below at (in_main e home second) =
        in_main (same (Phase j) refl ∙ e) home
        (elim second [
          | inl none ↦ inl (no-second kind core step a p.r after nodes unmoved j none)
          | inr (inl one) ↦ elim (second-then j) [ inl kept ↦ inr (inl (kept ∙ (one ∙ sym (same (LocA j) refl)))) | inr zero ↦ inl zero ]
          | inr (inr old) ↦ inr (inr (old.0, update-forth kind core step a p.r after nodes unmoved old.0 (λ x. length x.swapped ≤ layer) (λ few. few) old.1))
        ])
    where-forth j layer n k below at (in_old number name e some home of_layer) =
        let kept = where-else j n k (superseded number name) below at home (λ l. main_old l number name) some in
        in_old number name (same (Phase j) refl ∙ e) (λ zero. some (sym kept ∙ zero)) home of_layer
    where-forth j layer n k below at (in_merged number t root e some home has) =
        let kept = where-else j n k (under (Slot layer t)) below at home (λ l. main_slot l layer t) some in
        in_merged number t root (same (Phase j) refl ∙ e) (λ zero. some (sym kept ∙ zero)) home (update-forth kind core step a p.r after nodes unmoved number (λ x. IsStillMerged x layer t root) (λ still. still) has)

    second-forth : (j : ℕ) → word_of (After kind core step) (LocB j) ≢ 0 → IsSecond Is j
    second-forth j some =
        let apart : j ≢ i = λ one. some (ap (λ (x : ℕ). word_of (After kind core step) (LocB x)) one ∙ h.none) in
        let kept = second-else j apart in
        let old = a.laws.locations.second j (λ none. some (kept ∙ none)) in
        let t = (has-own kind core step a p.r p.update location_scope (λ k v. refl) update_on_places (λ bare v. refl) old.0 (IsSecondFor Was j) old.1).1 in
        let n = t.3 in (
          step.number,
          own-has kind core step a p.r p.update location_scope (λ k v. refl) update_on_places (λ bare v. refl) after unmoved.rebuild (IsSecondFor Is j) (
            t.0,
            t.1,
            λ among. elim (Contains-append_cases p.r.promoted (i ∷ []) j among) [ inl was ↦ t.2 was | inr new ↦ apart (sym (only i j new)) ],
            (
              n.0,
              n.1,
              n.2,
              (
                kept ∙ n.3.0,
                subst (λ (scene : Scene). HasBody scene n.0.index (λ b. (b.generation ≡ n.0.generation) × (b.layer ≡ n.0.layer))) (sym (scene-same kind core step a p.r after nodes unmoved)) n.3.1,
              ),
            ),
          ),
        )

    pub LocationsHold-promoted : LocationsHold nodes (after_step kind core step)
    LocationsHold-promoted =
        LocationsHold-unmoved kind core step a p.r after nodes unmoved
        (record {
          entries = λ j n k published below entry. a.laws.locations.entries j n k published below entry;
          made = λ n number l e. e;
          planned = λ noted among planned above. let below = swapped kind core step a i p noted among planned in absurd (omega arith);
          published =
              each-own kind core step a p.r p.update location_scope (λ k v. refl) update_on_places (λ bare v. refl) (λ number v x. (m : Noted) → Contains x.noted m → IsPublishedAt nodes x m)
              a.laws.locations.published;
          first = λ j b n k e inside below at where_it. where-forth j b.layer n k below at where_it;
          second = second-forth;
        })
