-- What is told of a record of tracks after those before it.
use Rattle.std.proofs.Common.{◌≡◌, ◌∙◌, ℕ, ◌≤◌, true, List, length, refl, sym, ap, subst, arith, leb-true, ne_eqb}
use Rattle.std.specs.Prelude.{Option, nat_le}
use Rattle.std.proofs.lemmas.Bool.{false≢true}
use Rattle.acas_base.specs.Encounter.{most_crafts}
use Rattle.acas_base.specs.declared.TheConstants.{CRAFTS}
use Rattle.enc_file.specs.Conditions as enc
use Rattle.enc_file.specs.Earlier.{crafts_of, version_of}
use Rattle.enc_file.specs.Records.{records_of}
use Rattle.enc_file.specs.declared.record.Record.{Record}
use Rattle.enc_file.specs.declared.refusal.Code.{Code}
use Rattle.enc_file.specs.declared.refusal.Code.TheVariants as code
use Rattle.fault_text.specs.Before.{TellsCounted, TellsRepeat, TellsUnknown}
use Rattle.fault_text.specs.Lines.{fields_in}
use Rattle.fault_text.specs.Names.{stated_kind}
use Rattle.fault_text.specs.Rows.{records_in}
use Rattle.fault_text.specs.Told as told
use Rattle.fault_text.specs.declared.fault.Why.{Why}
use Rattle.fault_text.specs.declared.names.RecordKind.{RecordKind}
use Rattle.fault_text.specs.declared.names.RecordKind.TheVariants as kind
use Rattle.track_text.specs.Earlier.{shared_of}
use Rattle.track_text.specs.Kinds.{is_shared, stated_line}
use Rattle.track_text.specs.Told.{IsAgainst, IsFormat, TellsEarlier, all_shared}
use Rattle.track_text.specs.declared.kinds.LineKind.{LineKind}
use Rattle.track_text.specs.declared.kinds.LineKind.TheVariants as of
use Rattle.track_text.specs.declared.kinds.OwnKind.TheVariants as own
use Rattle.track_text.specs.declared.refusal.Refusal.{Refusal}
use Rattle.track_text.specs.declared.why.TrackWhy.{TrackWhy}
use Rattle.track_text.specs.declared.why.TrackWhy.TheVariants as why
use Rattle.track_text.proofs.TrackRows.{in-shared, shared-against}
use Rattle.track_text.proofs.Versions.{headed-by, version-late}

-- By the kind that was found.
pub against-as : (text : List ℕ) (refusal : Refusal) (c : Code) (k other : LineKind) (line : List ℕ) → k ≡ other → IsAgainst text refusal c (stated_line k) line → IsAgainst text refusal c (stated_line other) line
against-as text refusal c k other line e a = subst (λ (x : LineKind). IsAgainst text refusal c (stated_line x) line) e a

pub tells-kind : (text : List ℕ) (refusal : Refusal) (c : Code) (k other : LineKind) (line : List ℕ) (w : TrackWhy) → k ≡ other → TellsEarlier text refusal c other line w → TellsEarlier text refusal c k line w
tells-kind text refusal c k other line w e t = subst (λ (x : LineKind). TellsEarlier text refusal c x line w) (sym e) t

-- One aircraft too many.
many-late : (version : ℕ) → 2 ≤ version → most_crafts version ≡ CRAFTS
many-late version late = rw (ne_eqb version 1 (λ e. omega (arith, late, e))) refl

pub many-crafts : (text : List ℕ) (refusal : Refusal) (line : List ℕ) → IsAgainst text refusal code.Count (stated_line (of.Own own.Craft)) line → TellsEarlier text refusal code.Count (of.Own own.Craft) line why.ManyCrafts
many-crafts text refusal line a =
    let earlier = a.refused.earlier in
    let header = headed-by (records_of text) (length earlier) earlier a.refused.passed a.some in
    let late = version-late header.row (version_of (shared_of earlier)) header.says in
    let many : CRAFTS ≤ length (crafts_of (shared_of earlier)) = leb-true _ _ (ap (λ n. nat_le n (length (crafts_of (shared_of earlier)))) (sym (many-late (version_of (shared_of earlier)) late)) ∙ a.fault) in
    record { refused = a.refused; tells = subst (λ rs. CRAFTS ≤ length (crafts_of rs)) (sym (in-shared earlier)) many }

-- What is wanting at the end.
end-by : (earlier : List Record) (k : RecordKind) (fields : List (List ℕ)) → is_shared k ≡ true → enc.is_miscounted earlier (stated_kind k) fields ≡ true → k ≡ kind.End
end-by earlier kind.End fields shared h = refl
end-by earlier kind.Craft fields shared h = absurd (false≢true shared)
end-by earlier kind.Run fields shared h = absurd (false≢true h)
end-by earlier kind.Gains fields shared h = absurd (false≢true h)
end-by earlier kind.Climb fields shared h = absurd (false≢true h)
end-by earlier kind.Leg fields shared h = absurd (false≢true h)
end-by earlier kind.Miss fields shared h = absurd (false≢true h)
end-by earlier kind.Plan fields shared h = absurd (false≢true h)
end-by earlier kind.Fate fields shared h = absurd (false≢true h)
end-by earlier kind.Profile fields shared h = absurd (false≢true h)
end-by earlier kind.Name fields shared h = absurd (false≢true h)
end-by earlier kind.Clock fields shared h = absurd (false≢true h)
end-by earlier kind.Call fields shared h = absurd (false≢true h)

pub end-counted : (text : List ℕ) (refusal : Refusal) (k : RecordKind) (line : List ℕ) (w : Why) (version : ℕ) → is_shared k ≡ true → IsFormat text version → IsAgainst text refusal code.Count (stated_line (of.Shared k)) line
    → ((l : List ℕ) (earlier : List (Option Record)) → version_of (records_in earlier) ≡ version → told.IsAgainst text refusal.at code.Count kind.End l earlier → TellsCounted (records_in earlier) kind.End w)
    → TellsEarlier text refusal code.Count (of.Shared k) line (why.Shared w)
end-counted text refusal k line w version shared format a tells =
    let end = end-by (shared_of a.refused.earlier) k (fields_in line) shared a.fault in
    let b = shared-against text refusal code.Count k line a in
    let is : version_of (records_in (all_shared a.refused.earlier)) ≡ version = ap version_of (in-shared a.refused.earlier) ∙ format refusal a.refused a.some in
    let at-end = subst (λ (x : RecordKind). told.IsAgainst text refusal.at code.Count x line (all_shared a.refused.earlier)) end b in
    record {
      refused = a.refused;
      tells = subst (λ (x : RecordKind). TellsCounted (records_in (all_shared a.refused.earlier)) x w) (sym end) (tells line (all_shared a.refused.earlier) is at-end);
    }

-- What repeats, and what is unknown.
pub craft-repeated : (text : List ℕ) (refusal : Refusal) (line : List ℕ) (w : Why) → IsAgainst text refusal code.Repeat (stated_line (of.Own own.Craft)) line
    → ((earlier : List (Option Record)) → told.IsAgainst text refusal.at code.Repeat kind.Craft line earlier → TellsRepeat text earlier kind.Craft (fields_in line) w) → TellsEarlier text refusal code.Repeat (of.Own own.Craft) line (why.Shared w)
craft-repeated text refusal line w a tells = record { refused = a.refused; tells = tells (all_shared a.refused.earlier) (shared-against text refusal code.Repeat kind.Craft line a) }

pub shared-repeated : (text : List ℕ) (refusal : Refusal) (k : RecordKind) (line : List ℕ) (w : Why) → IsAgainst text refusal code.Repeat (stated_line (of.Shared k)) line
    → ((earlier : List (Option Record)) → told.IsAgainst text refusal.at code.Repeat k line earlier → TellsRepeat text earlier k (fields_in line) w) → TellsEarlier text refusal code.Repeat (of.Shared k) line (why.Shared w)
shared-repeated text refusal k line w a tells = record { refused = a.refused; tells = tells (all_shared a.refused.earlier) (shared-against text refusal code.Repeat k line a) }

pub shared-unknown : (text : List ℕ) (refusal : Refusal) (k : RecordKind) (line : List ℕ) (w : Why) → IsAgainst text refusal code.Unknown (stated_line (of.Shared k)) line
    → ((earlier : List (Option Record)) → told.IsAgainst text refusal.at code.Unknown k line earlier → TellsUnknown (records_in earlier) k (fields_in line) w) → TellsEarlier text refusal code.Unknown (of.Shared k) line (why.Shared w)
shared-unknown text refusal k line w a tells = record { refused = a.refused; tells = tells (all_shared a.refused.earlier) (shared-against text refusal code.Unknown k line a) }
