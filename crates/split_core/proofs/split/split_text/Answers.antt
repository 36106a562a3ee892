use Rattle.std.proofs.Common.{◌≡◌, ℕ, IfOk, List, map, ap, ap₂, subst, ◌∙◌}
use Rattle.split_core.specs.Split.{kept_pieces, padded}
use Rattle.split_core.proofs.split.split_text.Goals as goal

pub returns : goal.returns
returns c =
    let kept = kept_pieces c.args.ignore_empty c.args.blind in
    subst (λ (rows : List (List (List ℕ))). IfOk c.padded.result (λ grid. grid ≡ padded c.args.pad.now rows))
    (ap (map (λ row. map (λ piece. piece.now) row.items)) c.as_slice-2.ensures.value
    ∙ c.in_ok-rows-2.ensures
    ∙ ap₂ (λ delimiters rows. map (kept delimiters) rows) c.new-column_delimiters.ensures
    (ap (map (λ row. row.now)) c.as_slice.ensures.value ∙ c.in_ok-rows.ensures ∙ ap (λ delimiters. kept delimiters c.args.text.now) c.new-row_delimiters.ensures))
    c.padded.ensures
