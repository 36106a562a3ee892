use Rattle.std.proofs.Common.{◌+◌, ◌++◌, ℕ, map, sym, ap, ap₂, subst, ◌∙◌, IsCharBoundary, arith}
use Rattle.std.specs.List.{filter}
use Rattle.std.proofs.lemmas.Str.{IsCharBoundary-start}
use Rattle.split_core.specs.Split.{stays}
use Rattle.split_core.proofs.Cutting.{kept-cut, kept-end, rest_pieces, rest-first, rest-missed}
use Rattle.split_core.proofs.pieces.cut.Goals as goal
use Rattle.split_core.proofs.pieces.cut.Goals.{in-Some+in_ok-push_piece, in_default}

pub loop-place-init : goal.loop-place-init
loop-place-init c =
    let keeps = stays c.args.manner.ignore_empty in
    record {
      kept =
          ap (λ found. map (λ piece. piece.now) found ++ filter keeps (rest_pieces c.args.manner.blind c.args.delimiters.now.texts.now c.args.text.now 0 0)) c.new-found.ensures.items
          ∙ ap (filter keeps) (rest-first c.args.manner.blind c.args.delimiters.now.texts.now c.args.text.now);
      start = IsCharBoundary-start c.args.text.now c.utf8.text;
    }

pub loop-place-preserved : goal.loop-place-preserved
loop-place-preserved c =
    let keeps = stays c.args.manner.ignore_empty in
    let rest = rest_pieces c.args.manner.blind c.args.delimiters.now.texts.now c.args.text.now in
    elim c.match-matched.branch [
      | in-Some+in_ok-push_piece w ↦ record {
        kept =
            ap₂ (λ found start. map (λ piece. piece.now) found.items ++ filter keeps (rest start (c.loop-place.place + 1))) w.found-is w.start-is
            ∙ kept-cut keeps c.args.manner.blind c.args.delimiters.now.texts.now c.args.text.now c.loop-place.start c.loop-place.place w.in-Some.count (map (λ piece. piece.now) c.loop-place.found.items) (map (λ piece. piece.now) w.push_piece.new.found.items) _
            (omega arith) (omega arith) w.in-Some.ensures.whole.some (sym w.in-Some.ensures.value) w.in_ok-push_piece.ensures c.loop-place.invariant.kept;
        start = subst (λ (start : ℕ). IsCharBoundary c.args.text.now start) (sym w.start-is) w.in-Some.ensures.whole.end;
      }
      | in_default w ↦ record {
        kept =
            ap₂ (λ found start. map (λ piece. piece.now) found.items ++ filter keeps (rest start (c.loop-place.place + 1))) w.found-is w.start-is
            ∙ ap (λ pieces. map (λ piece. piece.now) c.loop-place.found.items ++ filter keeps pieces) (rest-missed c.args.manner.blind c.args.delimiters.now.texts.now c.args.text.now c.loop-place.start c.loop-place.place (omega arith) (omega arith) (sym w.in_default.ensures.value))
            ∙ c.loop-place.invariant.kept;
        start = subst (λ (start : ℕ). IsCharBoundary c.args.text.now start) (sym w.start-is) c.loop-place.invariant.start;
      }
    ]

pub returns : goal.returns
returns c =
    kept-end (stays c.args.manner.ignore_empty) c.args.manner.blind c.args.delimiters.now.texts.now c.args.text.now c.loop-place.start c.loop-place.place (map (λ piece. piece.now) c.loop-place.found.items) _ _
    c.loop-place.invariant.start.0 (omega arith) c.in_ok-push_piece-2.ensures c.loop-place.invariant.kept
