-- The way down to a place and the places properly above it say the same of what import reaches.
use Rattle.std.proofs.Common.{◌≡◌, ℕ, [], ◌∷◌, ◌++◌, Bool, true, not, Some, None, inl, inr, refl, ap, subst}
use Rattle.std.proofs.lemmas.Bool.{and_parts, and_from, or_cases, or_left, or_right, not-true, not_from_false}
use Rattle.std.specs.Option.{option_map_or}
use Rattle.tree_core.specs.Label.{Label}
use Rattle.tree_core.specs.Tree.{Run, Tree, tree, Trees}
use Rattle.tree_core.specs.Place.{Place, child}
use Rattle.import_core.specs.Rule.{Rule}
use Rattle.import_core.specs.Reached.{IsOpen, IsReached}
use Rattle.import_core.specs.ImportOf.{is_bare, opens, reached}

bare_run : (run : Run) → is_bare run ≡ true → run ≡ []
bare_run [] h = refl
bare_run (flag ∷ run) h = cc

module _ (rule : Rule) where
  open_root : (add : Bool) (t : Tree) → opens rule add t ≡ true → IsOpen rule add t []
  open_root add (tree run label ts) h =
      let parts = and_parts (not (rule.closed label)) _ h in
      record {
        entered = not-true _ parts.0;
        replaced = elim (or_cases (is_bare run) _ parts.1) [
          | inl bare ↦ inl (bare_run run bare)
          | inr both ↦ (let two = and_parts add _ both in inr (record { wanted_here = two.0; range_like_here = two.1 }))
        ];
      }

  opens_root : (add : Bool) (t : Tree) → IsOpen rule add t [] → opens rule add t ≡ true
  opens_root add (tree run label ts) h =
      and_from _ _ (not_from_false _ h.entered)
      (elim h.replaced [
        | inl bare ↦ or_left (is_bare run) _ (ap is_bare bare)
        | inr both ↦ or_right (is_bare run) _ (and_from _ _ both.wanted_here both.range_like_here)
      ])

  -- import goes on below a place of a child exactly where it does so below that place of the tree
  open_down : (add : Bool) (run : Run) (label : Label) (ts : Trees) (i : ℕ) (c : Tree) (above : Place) → child ts i ≡ Some c
      → IsOpen rule add (tree run label ts) (i ∷ above) → IsOpen rule (rule.context add label ts i) c above
  open_down add run label ts i c above e h = record {
    entered = rw e at h.entered;
    replaced = elim h.replaced [
      | inl bare ↦ inl (rw e at bare)
      | inr both ↦ inr (record { wanted_here = rw e at both.wanted_here; range_like_here = rw e at both.range_like_here })
    ];
  }

  open_up : (add : Bool) (run : Run) (label : Label) (ts : Trees) (i : ℕ) (c : Tree) (above : Place) → child ts i ≡ Some c
      → IsOpen rule (rule.context add label ts i) c above → IsOpen rule add (tree run label ts) (i ∷ above)
  open_up add run label ts i c above e h = record {
    entered = rw e h.entered;
    replaced = elim h.replaced [
      | inl bare ↦ inl (rw e bare)
      | inr both ↦ inr (record { wanted_here = rw e both.wanted_here; range_like_here = rw e both.range_like_here })
    ];
  }

  open_outside : (add : Bool) (run : Run) (label : Label) (ts : Trees) (i : ℕ) (above : Place) → child ts i ≡ None → IsOpen rule add (tree run label ts) (i ∷ above)
  open_outside add run label ts i above e = record { entered = rw e refl; replaced = inl (rw e refl) }

  open_above : (place above rest : Place) (i : ℕ) (add : Bool) (t : Tree) → reached rule add t place ≡ true → place ≡ above ++ i ∷ rest → IsOpen rule add t above
  open_above [] [] rest i add t h e = cc
  open_above [] (k ∷ above) rest i add t h e = cc
  open_above (j ∷ place) [] rest i add t h e = open_root add t (and_parts (opens rule add t) _ h).0
  open_above (j ∷ place) (k ∷ above) rest i add (tree run label ts) h e =
      let same_child : j ≡ k = cc in
      let same_rest : place ≡ above ++ i ∷ rest = cc in
      let there = elim (child ts j) as (λ o. child ts j ≡ o → option_map_or (λ c. reached rule (rule.context add label ts j) c place) o true ≡ true → IsOpen rule add (tree run label ts) (j ∷ above)) [
        | None ↦ λ outside r. open_outside add run label ts j above outside
        | Some c ↦ λ inside r. open_up add run label ts j c above inside (open_above place above rest i (rule.context add label ts j) c r same_rest)
      ] in
      subst (λ n. IsOpen rule add (tree run label ts) (n ∷ above)) same_child (there refl (and_parts (opens rule add (tree run label ts)) _ h).1)

  pub is_reached : (add : Bool) (t : Tree) (place : Place) → reached rule add t place ≡ true → IsReached rule add t place
  is_reached add t place h = λ above i rest e. open_above place above rest i add t h e

  pub reached_is : (add : Bool) (t : Tree) (place : Place) → IsReached rule add t place → reached rule add t place ≡ true
  reached_is add t [] h = refl
  reached_is add (tree run label ts) (i ∷ place) h =
      let there = elim (child ts i) as (λ o. child ts i ≡ o → option_map_or (λ c. reached rule (rule.context add label ts i) c place) o true ≡ true) [
        | None ↦ λ outside. refl
        | Some c ↦ λ inside. reached_is (rule.context add label ts i) c place
            (λ above j rest q. open_down add run label ts i c above inside (h (i ∷ above) j rest (ap (λ p. i ∷ p) q)))
      ] in
      and_from _ _ (opens_root add (tree run label ts) (h [] i place refl)) (there refl)
