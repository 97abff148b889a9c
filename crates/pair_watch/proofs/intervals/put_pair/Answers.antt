use Rattle.std.proofs.Common.{◌≡◌, ◌∷◌, ◌<◌, ◌≤◌, ℕ, ◌+◌, true, [], List, Option, Some, None, length, get_or, unwrap_or, sym, ap, ◌∙◌, subst, arith}
use Rattle.std.specs.Prelude.{option_and_then, option_to_list}
use Rattle.std.proofs.lemmas.Bool.{cond-true}
use Rattle.acas_base.specs.Encounter.{Parts}
use Rattle.acas_base.specs.declared.advisory.Sense.{Sense}
use Rattle.acas_base.specs.declared.craft.CraftSpec.{CraftSpec}
use Rattle.acas_base.specs.declared.entry.Entry.{Entry}
use Rattle.air_journal.specs.Airs.{address_of, air_of}
use Rattle.air_rules.proofs.Beginnings.{begins-length}
use Rattle.air_rules.specs.Journal.{Begins}
use Rattle.journal_reader.specs.Reading.{read_of}
use Rattle.pair_watch.specs.Watching.{begun_sense, cause_of, equal_sense, interval_line, is_watched, last_of, line_at, line_for, next_send, row_began}
use Rattle.pair_watch.specs.declared.pair.Cause.{Cause}
use Rattle.air_journal.proofs.Addresses.{address-is}
use Rattle.pair_watch.proofs.Putting.{prefix-is}
use Rattle.pair_watch.proofs.Steps.{begun}
use Rattle.pair_watch.proofs.intervals.put_pair.Goals as goal

-- What was read of the journal.
within : (K L J : List Entry) (at : ℕ) → Begins K L → L ≡ J → length K ≡ at + 1 → at < length J
within K L J at b same size = (let few : length K ≤ length L = begins-length K L b in let n : length L ≡ length J = ap length same in omega arith)

read-is : (K L J : List Entry) (at : ℕ) → Begins K L → L ≡ J → length K ≡ at + 1 → K ≡ read_of J (at + 1)
read-is K L J at b same size = prefix-is K J (subst (λ (M : List Entry). Begins K M) same b) ∙ ap (read_of J) size

pub last_of-requires-clause-within : goal.last_of-requires-clause-within
last_of-requires-clause-within g c = within c.args.reader.now.read c.args.reader.now.journal c.args.state.now.journal c.args.at c.reading_law.ensures.begins c.requires.journal c.requires.last

pub last_of-requires-clause-row : goal.last_of-requires-clause-row
last_of-requires-clause-row g c =
    let K = c.args.reader.now.read in
    let b = begun K c.args.pair.low c.args.pair.high c.args.at c.in-Some.sense (sym c.begun_sense.ensures ∙ c.in-Some.is) in
    subst (λ (L : List Entry). row_began L c.args.pair.low c.args.pair.high ≡ Some c.args.at) (read-is K c.args.reader.now.journal c.args.state.now.journal c.args.at c.reading_law.ensures.begins c.requires.journal c.requires.last) b.row

pub last_of-requires-clause-sense : goal.last_of-requires-clause-sense
last_of-requires-clause-sense g c =
    let K = c.args.reader.now.read in
    let b = begun K c.args.pair.low c.args.pair.high c.args.at c.in-Some.sense (sym c.begun_sense.ensures ∙ c.in-Some.is) in
    subst (λ (L : List Entry). equal_sense L c.args.pair.low c.args.pair.high ≡ Some c.in-Some.sense) (read-is K c.args.reader.now.journal c.args.state.now.journal c.args.at c.reading_law.ensures.begins c.requires.journal c.requires.last) b.sense_is

pub next_send-requires : goal.next_send-requires
next_send-requires g c = within c.args.reader.now.read c.args.reader.now.journal c.args.state.now.journal c.args.at c.reading_law.ensures.begins c.requires.journal c.requires.last

-- The line, from its parts.
told : (e : Parts) (J K : List Entry) (low high at : ℕ) (sense : Sense) (a b to : ℕ) (cause : Cause) (next : Option ℕ) → a ≡ address_of e low → b ≡ address_of e high → last_of J low high at ≡ Some to → cause ≡ cause_of (air_of e) K low high →
    next ≡ next_send J low high at → interval_line a b sense at to cause next ≡ line_for e J K low high at sense
told e J K low high at sense a b to cause next p q r s t =
    ap (λ (x : ℕ). interval_line x b sense at to cause next) p ∙ ap (λ (x : ℕ). interval_line (address_of e low) x sense at to cause next) q
    ∙ ap (λ (x : ℕ). interval_line (address_of e low) (address_of e high) sense at x cause next) (sym (ap (λ (o : Option ℕ). unwrap_or o at) r))
    ∙ ap (λ (x : Cause). interval_line (address_of e low) (address_of e high) sense at (unwrap_or (last_of J low high at) at) x next) s
    ∙ ap (λ (x : Option ℕ). interval_line (address_of e low) (address_of e high) sense at (unwrap_or (last_of J low high at) at) (cause_of (air_of e) K low high) x) t

line-is : (e : Parts) (J K : List Entry) (low high at : ℕ) (sense : Sense) → is_watched (air_of e) low high ≡ true → begun_sense K low high at ≡ Some sense → line_at e J K at low high ≡ Some (line_for e J K low high at sense)
line-is e J K low high at sense watched is = cond-true (is_watched (air_of e) low high) _ None watched ∙ ap (option_and_then (λ (s : Sense). Some (line_for e J K low high at s))) is

address : (e : Parts) (crafts : List CraftSpec) (own from : ℕ) (craft : CraftSpec) → crafts ≡ e.crafts → from ≡ own → own < length e.crafts → craft ≡ get_or crafts from craft → (get_or crafts from craft).address ≡ address_of e own
address e crafts own from craft same is few read =
    let n : length crafts ≡ length e.crafts = ap length same in
    ap (λ (x : CraftSpec). x.address) (sym read) ∙ address-is e crafts from craft same (omega arith) read ∙ ap (address_of e) is

pub returns-in-Some : goal.returns-in-Some
returns-in-Some g c =
    let e = c.args.state.now.encounter in
    let J = c.args.state.now.journal in
    let K = c.args.reader.now.read in
    let low = c.args.pair.low in
    let high = c.args.pair.high in
    let at = c.args.at in
    let sense = c.in-Some.sense in
    let crafts = c.crafts-crafts.ensures.value ∙ ap (λ (p : Parts). p.crafts) c.enc-in-Some.ensures in
    let watched = sym (c.is_watched.ensures ∙ ap (λ (p : Parts). is_watched (air_of p) low high) c.enc.ensures) ∙ c.if-not-is_watched.false in
    let a = address e c.crafts-crafts.result.now low c.from.result c.index-crafts-from.result crafts c.from.ensures c.requires.low c.index-crafts-from.is in
    let b = address e c.crafts-crafts.result.now high c.from-in-Some.result c.index-crafts-from-in-Some.result crafts c.from-in-Some.ensures c.requires.high c.index-crafts-from-in-Some.is in
    let cause = c.cause_of.ensures ∙ ap (λ (p : Parts). cause_of (air_of p) K low high) c.requires.encounter in
    let line = c.interval_line.ensures ∙ told e J K low high at sense _ _ c.last_of.result c.cause_of.result c.next_send.result a b c.last_of.ensures cause c.next_send.ensures in
    subst (g.S.LineSink.took c.args.sink.now c.line.new.self) (ap (λ (l : List ℕ). l ∷ []) line ∙ sym (ap option_to_list (line-is e J K low high at sense watched (sym c.begun_sense.ensures ∙ c.in-Some.is)))) c.line.ensures
