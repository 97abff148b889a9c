use Rattle.std.proofs.Common.{◌≡◌, ℕ, Bool, true, false, cond, List, [], ◌∷◌, ◌++◌, Option, sym, ap, ap₂, ◌∙◌, subst}
use Rattle.std.specs.Option.{option_map_or}
use Rattle.acas_base.specs.Encounter.{Parts, is_active_kind}
use Rattle.acas_base.specs.declared.craft.Kind.{Kind}
use Rattle.air_journal.specs.Airs.{address_of, air_of, kind_of}
use Rattle.air_journal.specs.States.{State}
use Rattle.summary.specs.Fields.{kind_text}
use Rattle.summary.specs.Lines.{craft_line, craft_lines, lines_of_kind, rank_part, stretch_lines}
use Rattle.summary.specs.Stretches.{starts_of}
use Rattle.summary.proofs.stretches.put_craft.Goals as goal

pub returns-then-is_active : goal.returns-then-is_active
returns-then-is_active g c =
    let e = c.args.page.now.encounter in
    let J = c.args.page.now.journal in
    let own = c.args.own in
    let other = c.args.other in
    let kind = c.kind_at-kind.result in
    let enc = c.enc-encounter.ensures ∙ ap (λ (s : State). s.encounter) c.state.ensures in
    let at = ap (λ (p : Parts). kind_of p own) (sym enc) ∙ c.kind_at-kind.ensures in
    let address = c.address_of.ensures ∙ ap (λ (p : Parts). address_of p own) enc in
    let part = c.rank_part-part.ensures.text ∙ ap (λ (p : Parts). rank_part p own other kind) enc in
    let line = c.craft_line.ensures ∙ ap₂ craft_line address (ap (λ (r : List ℕ). kind_text kind ++ r) part) in
    let head = subst (λ (l : List ℕ). g.S.LineSink.took c.args.sink.now c.line.new.self (l ∷ [])) line c.line.ensures in
    let met : is_active_kind kind ≡ true = sym c.is_active.ensures ∙ c.if-is_active.true in
    let first = craft_line (address_of e own) (kind_text kind ++ rank_part e own other kind) in
    let rest = stretch_lines e J own other (starts_of (air_of e) J own other) in
    let all : first ∷ rest ≡ craft_lines e J own other =
    ap (λ (b : Bool). first ∷ cond b rest []) (sym met) ∙ ap (λ (k : Option Kind). option_map_or (lines_of_kind e J own other) k []) (sym at) in
    subst (g.S.LineSink.took c.args.sink.now c.put_stretches.new.sink) all (g.met.S.LineSink.then _ _ _ _ _ head c.put_stretches.ensures)

pub returns-else-is_active : goal.returns-else-is_active
returns-else-is_active g c =
    let e = c.args.page.now.encounter in
    let J = c.args.page.now.journal in
    let own = c.args.own in
    let other = c.args.other in
    let kind = c.kind_at-kind.result in
    let enc = c.enc-encounter.ensures ∙ ap (λ (s : State). s.encounter) c.state.ensures in
    let at = ap (λ (p : Parts). kind_of p own) (sym enc) ∙ c.kind_at-kind.ensures in
    let address = c.address_of.ensures ∙ ap (λ (p : Parts). address_of p own) enc in
    let part = c.rank_part-part.ensures.text ∙ ap (λ (p : Parts). rank_part p own other kind) enc in
    let line = c.craft_line.ensures ∙ ap₂ craft_line address (ap (λ (r : List ℕ). kind_text kind ++ r) part) in
    let head = subst (λ (l : List ℕ). g.S.LineSink.took c.args.sink.now c.line.new.self (l ∷ [])) line c.line.ensures in
    let unmet : is_active_kind kind ≡ false = sym c.is_active.ensures ∙ c.if-is_active.false in
    let first = craft_line (address_of e own) (kind_text kind ++ rank_part e own other kind) in
    let rest = stretch_lines e J own other (starts_of (air_of e) J own other) in
    let all : first ∷ [] ≡ craft_lines e J own other =
    ap (λ (b : Bool). first ∷ cond b rest []) (sym unmet) ∙ ap (λ (k : Option Kind). option_map_or (lines_of_kind e J own other) k []) (sym at) in
    subst (g.S.LineSink.took c.args.sink.now c.line.new.self) all head
