use Rattle.std.proofs.Common.{◌≡◌, Some, if◌then◌else◌, ap, subst}
use Rattle.std.specs.BTreeMap.{is_at}
use Rattle.book_core.specs.Held.{Key, held_at, key_cmp, key_of}
use Rattle.book_core.proofs.Keys.{contents_in, holds_in, on-err, set-cell, set-held}
use Rattle.book_core.proofs.cells.MemoryBook.set.Goals as goal

pub returns-in_err-insert-clause-kept : goal.returns-in_err-insert-clause-kept
returns-in_err-insert-clause-kept c = on-err c.from_residual.result (record { contents = ap (contents_in c.args.self.now.sheets) c.in_err-insert.ensures.err; held = ap holds_in c.in_err-insert.ensures.err })

pub returns-clause-done : goal.returns-clause-done
returns-clause-done c = set-cell c.args.self.now.sheets c.args.self.now.cells.entries c.insert.new.self.entries c.args.cell
    (record { value = c.args.value; num_fmt = c.args.num_fmt; formula = c.args.formula })
    (λ other. subst (λ (key : Key). held_at c.insert.new.self.entries other
    ≡ (if is_at (key_cmp key) (key_of other) then Some (record { value = c.args.value; num_fmt = c.args.num_fmt; formula = c.args.formula }) else held_at c.args.self.now.cells.entries other))
    c.key.ensures (c.in_ok-insert.ensures.updates.0 (key_of other)))

pub returns-clause-held : goal.returns-clause-held
returns-clause-held c = λ other. set-held c.args.self.now.cells.entries c.insert.new.self.entries c.args.cell other
    (record { value = c.args.value; num_fmt = c.args.num_fmt; formula = c.args.formula })
    (λ each. subst (λ (key : Key). held_at c.insert.new.self.entries each
    ≡ (if is_at (key_cmp key) (key_of each) then Some (record { value = c.args.value; num_fmt = c.args.num_fmt; formula = c.args.formula }) else held_at c.args.self.now.cells.entries each))
    c.key.ensures (c.in_ok-insert.ensures.updates.0 (key_of each)))
