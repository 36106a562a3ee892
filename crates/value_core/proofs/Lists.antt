-- Lists that are alike under a map.
use Rattle.std.proofs.Common.{◌≡◌, ℕ, ◌<◌, List, length, map, get_or, sym, ap, ◌∙◌}
use Rattle.std.proofs.lemmas.List.{get_or-map}

-- they are alike at each index
pub alike_at_index : {X Y : Type 0} (f : X → Y) (xs ys : List X) (i : ℕ) (x y : X) → i < length xs → i < length ys → x ≡ get_or xs i x → y ≡ get_or ys i y
    → map f xs ≡ map f ys → f x ≡ f y
alike_at_index f xs ys i x y h k p q e =
    ap f p ∙ sym (get_or-map f xs i x (f x) h) ∙ ap (λ zs. get_or zs i (f x)) e ∙ get_or-map f ys i y (f x) k ∙ sym (ap f q)
