use Rattle.std.proofs.Common.{◌≡◌, ◌∷◌, ◌<◌, ◌≤◌, Option, Some, length, reverse, slice_get, option_map, refl, sym, ap, ◌∙◌, subst, arith}
use Rattle.std.specs.Prelude.{MatchOption}
use Rattle.air_journal.proofs.Bounds.{fits, most-few}
use Rattle.air_journal.specs.EntryRefs.{entry_of}
use Rattle.air_journal.specs.declared.entry_ref.EntryRef.{EntryRef}
use Rattle.journal_reader.proofs.Prefixes.{read-all, read-more, read-past, read-within}
use Rattle.journal_reader.specs.Reading.{Reading}
use Rattle.journal_reader.proofs.reader.Reader.next.Goals as goal
use Rattle.journal_reader.proofs.reader.Reader.next.Goals.{In_ok-entry}

here : (c : In_ok-entry) → slice_get (reverse c.self.inside.state.now.journal) c.self.inside.at ≡ Some (entry_of c.in_ok-entry.entry)
here c = sym c.entry_ref.ensures ∙ ap (option_map entry_of) (c.in_ok-entry.was)

pub returns-in_err-entry-clause-read : goal.returns-in_err-entry-clause-read
returns-in_err-entry-clause-read c =
    let J = c.self.inside.state.now.journal in
    let none = sym c.entry_ref.ensures ∙ ap (option_map entry_of) (c.in_err-entry.was) in
    let now = c.args.self.now in
    let all : now.read ≡ now.journal = subst (λ (r : Reading). r.read ≡ r.journal) c.self.view_is (read-all J c.self.inside.at (read-past J c.self.inside.at none)) in
    subst (λ (o : Option EntryRef). MatchOption o ((now.read ≡ now.journal) × (now.read ≡ now.read)) (λ entry. now.read ≡ entry_of entry ∷ now.read)) (sym c.from_residual.ensures) (all, refl)

pub overflow_add-self : goal.overflow_add-self
overflow_add-self c =
    let J = c.self.inside.state.now.journal in
    let e = c.self.inside.state.now.encounter in
    let within : c.self.inside.at < length J = read-within J c.self.inside.at _ (here (goal.at.overflow_add-self c).In_ok-entry) in
    let few : length J ≤ 585600 = (let f = fits e J c.legal_law.ensures.valid c.legal_law.ensures.legal in let g = most-few e c.legal_law.ensures.valid in omega arith) in
    omega arith

pub invariant_of-self : goal.invariant_of-self
invariant_of-self c = record {
  within = (let within = read-within c.self.inside.state.now.journal c.self.inside.at _ (here (goal.at.invariant_of-self c).In_ok-entry) in omega arith);
  kept = c.note.ensures;
}

pub returns-clause-read : goal.returns-clause-read
returns-clause-read c =
    read-more c.self.inside.state.now.journal c.self.inside.at (entry_of c.in_ok-entry.entry) (here (goal.at.returns-clause-read c).In_ok-entry)
    ∙ ap (λ (r : Reading). entry_of c.in_ok-entry.entry ∷ r.read) c.self.view_is
