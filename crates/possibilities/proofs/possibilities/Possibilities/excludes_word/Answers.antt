use Rattle.std.proofs.Common.{◌≡◌, ◌≤◌, ap, arith, false, sym, true, ◌∙◌}
use Rattle.std.proofs.lemmas.Bool.{not-true}
use Rattle.acas_base.specs.Encounter.{Parts}
use Rattle.air_journal.specs.Airs.{air_of}
use Rattle.air_rules.specs.Air.{is_active}
use Rattle.possibilities.proofs.Excluded.{never-had, never-idle, never-late}
use Rattle.possibilities.specs.Rows.{Found, row_of, words_in}
use Rattle.possibilities.specs.Saying.{has}
use Rattle.possibilities.proofs.possibilities.Possibilities.excludes_word.Goals as goal

pub returns-then-cycle-cycles : goal.returns-then-cycle-cycles
returns-then-cycle-cycles c = λ _.
    let run = c.cycles.ensures.value in
    let late = c.if-cycle-cycles.true in
    never-late c.args.self.now.scope c.args.self.now.encounter c.args.own c.args.cycle c.args.word (omega (arith, run, late))

pub returns-then-not-is_active : goal.returns-then-not-is_active
returns-then-not-is_active c = λ _.
    let here = c.enc.ensures ∙ c.state.ensures.encounter in
    never-idle c.args.self.now.scope c.args.self.now.encounter c.args.own c.args.cycle c.args.word
    (ap (λ (e : Parts). is_active (air_of e) c.args.own) (sym here) ∙ sym c.is_active.ensures ∙ c.if-not-is_active.true)

pub returns : goal.returns
returns c = λ none.
    let it = c.args.self.now in
    let here = c.enc.ensures ∙ c.state.ensures.encounter in
    let active : is_active (air_of it.encounter) c.args.own ≡ true = ap (λ (e : Parts). is_active (air_of e) c.args.own) (sym here) ∙ sym c.is_active.ensures ∙ c.if-not-is_active.false in
    let within : c.args.cycle ≤ it.encounter.cycles = (let run = c.cycles.ensures.value in let test = c.if-cycle-cycles.false in omega (arith, run, test)) in
    let without : has (words_in it.found c.args.own c.args.cycle) c.args.word ≡ false =
    ap (λ (found : Found). has (words_in found c.args.own c.args.cycle) c.args.word) (sym c.found.ensures) ∙ sym c.has.ensures ∙ not-true c.has.result none in
    never-had it.scope it.encounter c.found_law.ensures.encounter c.args.own c.args.cycle c.args.word (row_of it.found.words c.args.own) (c.found_law.ensures.found.words c.args.own active) c.requires within without
