use Rattle.std.proofs.Common.{ℕ, ◌*◌, ◌≤◌, List, length, replicate, sym, ap, ◌∙◌, subst₂, arith}
use Rattle.acas_base.specs.Encounter.{Parts}
use Rattle.deliveries.proofs.Slots.{notes-end, notes-none}
use Rattle.deliveries.specs.Noted.{AreNotes, no_copies, no_takes}
use Rattle.deliveries.specs.declared.takes.Copies.{Copies}
use Rattle.deliveries.specs.declared.takes.Takes.{Takes}
use Rattle.deliveries.proofs.noting.Notes.new.Goals as goal

pub loop-at-init : goal.loop-at-init
loop-at-init c =
    let e = c.args.state.now.encounter in
    let J = c.args.state.now.journal in
    let count = ap length c.crafts-count.ensures.value ∙ ap (λ (p : Parts). length p.crafts) c.enc.ensures in
    let copies = c.in_ok-copies.ensures ∙ ap (λ (n : ℕ). replicate (n * 9600) no_copies) count in
    let takes = c.in_ok-takes.ensures ∙ ap (λ (n : ℕ). replicate (n * 9600) no_takes) count in
    subst₂ (λ (cs : List Copies) (ts : List Takes). AreNotes e J 0 cs ts (replicate 256 0)) (sym copies) (sym takes) (notes-none e J)

pub returns : goal.returns
returns c =
    let J = c.args.state.now.journal in
    let end : length J ≤ c.loop-at.at = (let n = c.count-at-end.ensures.value in let t = c.loop-at-test.false in omega arith) in
    notes-end c.args.state.now.encounter J c.loop-at.at c.loop-at.notes.copies.items c.loop-at.notes.takes.items c.loop-at.notes.sent end c.loop-at.invariant
