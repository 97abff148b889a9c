use Rattle.std.proofs.Common.{◌≡◌, ℕ, ◌+◌, ◌<◌, ◌≤◌, [], ◌∷◌, ◌++◌, get_or, Option, refl, sym, ap, ap₂, ◌∙◌, subst, arith, eq-eqb}
use Rattle.acas_base.specs.declared.TheConstants.{CRAFTS}
use Rattle.acas_base.specs.declared.advisory.Cell.TheVariants.{Clear}
use Rattle.acas_base.specs.declared.entry.Entry.TheVariants as kinds
use Rattle.air_journal.proofs.Bounds.{few-commits}
use Rattle.air_journal.specs.Airs.{air_of}
use Rattle.air_rules.proofs.Legal.{legal-begins}
use Rattle.air_rules.proofs.Pace.{count-yes}
use Rattle.air_rules.specs.Journal.{cell_at, commits, is_commit_of, last_cell}
use Rattle.summary.specs.Kept.{IsRow, past_end}
use Rattle.summary.specs.Stretches.{begins, starts_of}
use Rattle.summary.specs.declared.rows.Start.{Start}
use Rattle.summary.specs.declared.told.Told.{Told}
use Rattle.summary.proofs.Rowing.{all-done, few-starts, kept, none-yet, passed}
use Rattle.summary.proofs.rows.note_commit.Goals as goal
use Rattle.summary.proofs.rows.note_commit.Goals.{else-begins, then-begins}

pub loop-other-init : goal.loop-other-init
loop-other-init c = none-yet (air_of c.args.reader.now.encounter) c.args.reader.now.read c.args.own c.args.cycle c.args.cells.now c.args.rows.now c.requires.own c.requires.kept

pub with-requires : goal.with-requires
with-requires c =
    let e = c.args.reader.now.encounter in
    let air = air_of e in
    let K = c.args.reader.now.read in
    let own = c.args.own in
    let other = c.loop-other.other in
    let x = kinds.Commit own c.args.cycle c.args.cells.now in
    let legal = legal-begins air c.requires.next c.reading_law.ensures.legal in
    let most : commits (x ∷ K) own ≤ 600 = few-commits e (x ∷ K) c.reading_law.ensures.valid legal own in
    let more : commits (x ∷ K) own ≡ commits K own + 1 = count-yes (is_commit_of own) x K (eq-eqb own own refl) in
    let few = few-starts air K own other in
    let row = (c.loop-other.invariant.rest other (omega arith) (omega arith)).count in
    subst (λ (n : ℕ). (get_or c.loop-other.rows n past_end).count < 600) (sym c.pair_of-pair.ensures) (omega arith)

pub loop-other-preserved : goal.loop-other-preserved
loop-other-preserved c =
    let air = air_of c.args.reader.now.encounter in
    let K = c.args.reader.now.read in
    let own = c.args.own in
    let cells = c.args.cells.now in
    let other = c.loop-other.other in
    let up = c.loop-other.invariant in
    let within : other < CRAFTS = omega arith in
    let test : c.begins.result ≡ begins (last_cell K own other) (cell_at cells other) =
    c.begins.ensures ∙ ap₂ begins c.last_cell-before.ensures (ap (λ (n : ℕ). get_or cells.list n Clear) c.from.ensures) in
    elim c.if-begins.branch [
      | then-begins w ↦
          (let starts = starts_of air K own other in
          let row = subst (λ (n : ℕ). IsRow starts (get_or c.loop-other.rows n past_end)) (sym w.pair_of-pair.ensures) (up.rest other (omega arith) within) in
          let with_told = w.with.ensures starts row in
          let is = subst (λ (t : Option Told). IsRow (starts ++ (let s : Start = record { cycle = c.args.cycle; told = t } in s) ∷ []) w.with.result) w.told_of.ensures with_told in
          rw w.rows-is (kept air K own c.args.cycle cells other w.pair_of-pair.result c.loop-other.rows w.with.result w.pair_of-pair.ensures c.requires.own within (sym test ∙ w.if-begins.true) is up))
      | else-begins w ↦ rw w.rows-is (passed air K own c.args.cycle cells other c.loop-other.rows within (sym test ∙ w.if-begins.false) up)
    ]

pub returns : goal.returns
returns c =
    let all : c.loop-other.other ≡ 16 = (let end = c.loop-other-test.false in let most = c.loop-other.auto.other-end in omega arith) in
    all-done (air_of c.args.reader.now.encounter) c.args.reader.now.read c.args.own c.args.cycle c.args.cells.now c.loop-other.rows c.loop-other.other all c.loop-other.invariant
