use Rattle.std.proofs.Common.{◌≡◌, ℕ, ◌*◌, List, length, sym, ap, ap₂, ◌∙◌, subst, arith}
use Rattle.acas_base.specs.Encounter.{IsEncounter, Parts}
use Rattle.acas_base.specs.declared.entry.Entry.{Entry}
use Rattle.air_journal.proofs.Steps.{blank-kept}
use Rattle.air_journal.proofs.state.AirState.new.Goals as goal
use Rattle.air_journal.specs.Airs.{air_of}
use Rattle.air_journal.specs.Kept.{HaveRoom, IsKept}
use Rattle.air_journal.specs.Usual.{AreUsual}
use Rattle.air_rules.specs.Length.{most_entries}
use Rattle.air_rules.specs.Rules.{IsLegal, empty}
use Rattle.flight.specs.Inside.{IsInside}

pub invariant_of-result : goal.invariant_of-result
invariant_of-result c =
    let e = c.in_ok-encounter.encounter in
    let same : e ≡ c.args.enc.now = c.in_ok-encounter.ensures in
    let most : most_entries (air_of e) ≡ most_entries (air_of c.args.enc.now) = ap (λ (p : Parts). most_entries (air_of p)) same in
    let cycles : e.cycles ≡ c.args.enc.now.cycles = ap (λ (p : Parts). p.cycles) same in
    let count : c.count_of.result ≡ length e.crafts = c.count_of.ensures.value ∙ ap (λ (p : Parts). length p.crafts) (sym same) in
    record {
      usual = subst (λ (p : Parts). AreUsual p c.in_ok-usual.usual) (sym same) c.in_ok-usual.ensures;
      whole = record {
        is_journal = record {
          valid = subst IsEncounter (sym same) c.cycles.ensures.valid;
          inside = subst IsInside (sym same) c.requires;
          legal = subst (IsLegal (air_of e)) (sym c.in_ok-journal.ensures.entries) empty;
        };
        kept = subst (λ (J : List Entry). IsKept (air_of e) J c.in_ok-tables.tables) (sym c.in_ok-journal.ensures.entries) (blank-kept (air_of e) c.in_ok-tables.tables c.in_ok-tables.ensures.blank);
        queues = subst (λ (p : Parts). HaveRoom (air_of p) c.in_ok-tables.tables) (sym same) c.in_ok-tables.ensures.room;
        room = omega (arith, c.pages_for.ensures.enough, c.in_ok-journal.ensures.room);
        crafts = c.in_ok-journal.ensures.crafts ∙ count;
        places = c.in_ok-journal.ensures.places ∙ ap₂ (λ (m n : ℕ). m * n) (c.cycles.ensures.value ∙ sym cycles) count;
      };
    }
