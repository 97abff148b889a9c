use Rattle.std.proofs.Common.{◌*◌, ◌≤◌, List, [], length, sym, ap, ◌∙◌, subst}
use Rattle.std.proofs.lemmas.List.{length-replicate}
use Rattle.air_journal.specs.declared.log.Note.{Note}
use Rattle.air_journal.specs.Pages.{joined}
use Rattle.air_journal.proofs.Paging.{joined-new, paged-new}
use Rattle.air_journal.proofs.log.Log.new.Goals as goal

pub returns : goal.returns
returns c = record { notes = ap joined c.in_ok-pages.ensures ∙ joined-new c.args.pages; room = ap (λ xs. length xs * 1024) c.in_ok-pages.ensures ∙ ap (λ n. n * 1024) (length-replicate {A = List Note} c.args.pages []) }

pub invariant_of-result : goal.invariant_of-result
invariant_of-result c = rw c.in_ok-pages.ensures (record { filled = paged-new c.args.pages; few = subst (λ n. n ≤ 1000000) (sym (length-replicate {A = List Note} c.args.pages [])) c.requires })
