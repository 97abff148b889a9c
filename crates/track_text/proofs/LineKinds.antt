-- The kind that a word names, where it is as in an encounter.
use Rattle.std.proofs.Common.{◌≡◌, ◌∙◌, ℕ, true, false, List, Some, refl, sym}
use Rattle.std.specs.Prelude.{codes}
use Rattle.std.specs.Str.{bytes_eq}
use Rattle.std.proofs.lemmas.Bool.{both_ways}
use Rattle.std.proofs.lemmas.Slice.Eq.{bytes_eq-Decides}
use Rattle.enc_file.specs.Conditions as enc
use Rattle.enc_file.specs.Conditions.{kind_word}
use Rattle.fault_text.specs.Names.{stated_kind, word_text}
use Rattle.fault_text.specs.declared.names.RecordKind.{RecordKind}
use Rattle.fault_text.specs.declared.names.RecordKind.TheVariants as kind
use Rattle.track_text.specs.Kinds.{IsKindNamed, is_shared}
use Rattle.track_text.specs.declared.kinds.LineKind.TheVariants as of
use Rattle.track_text.proofs.ToldAs.{found-passes, named-other}

same-word : (k : RecordKind) → kind_word (stated_kind k) ≡ word_text k
same-word kind.Run = refl
same-word kind.Gains = refl
same-word kind.Craft = refl
same-word kind.Climb = refl
same-word kind.Leg = refl
same-word kind.Miss = refl
same-word kind.Plan = refl
same-word kind.Fate = refl
same-word kind.End = refl
same-word kind.Profile = refl
same-word kind.Name = refl
same-word kind.Clock = refl
same-word kind.Call = refl

shared-by : (word : List ℕ) (k : RecordKind) → bytes_eq word (codes "craft") ≡ false → bytes_eq word (codes "leg") ≡ false → bytes_eq word (kind_word (stated_kind k)) ≡ true → is_shared k ≡ true
shared-by word kind.Run craft leg is = refl
shared-by word kind.Gains craft leg is = refl
shared-by word kind.Craft craft leg is = absurd (both_ways _ craft is)
shared-by word kind.Climb craft leg is = refl
shared-by word kind.Leg craft leg is = absurd (both_ways _ leg is)
shared-by word kind.Miss craft leg is = refl
shared-by word kind.Plan craft leg is = refl
shared-by word kind.Fate craft leg is = refl
shared-by word kind.End craft leg is = refl
shared-by word kind.Profile craft leg is = refl
shared-by word kind.Name craft leg is = refl
shared-by word kind.Clock craft leg is = refl
shared-by word kind.Call craft leg is = refl

pub shared-named : (version : ℕ) (word : List ℕ) (k : RecordKind) → bytes_eq word (codes "at") ≡ false → bytes_eq word (codes "craft") ≡ false → bytes_eq word (codes "leg") ≡ false → Some (stated_kind k) ≡ enc.kind_named version word
    → IsKindNamed version word (of.Shared k)
shared-named version word k point craft leg is =
    let passes = found-passes (λ kind. bytes_eq word (kind_word kind)) (enc.kinds_of version) (stated_kind k) (sym is) in record {
      names = (sym (same-word k) ∙ sym ((bytes_eq-Decides word (kind_word (stated_kind k))).0 passes), shared-by word k craft leg passes);
      named = named-other version word (Some (stated_kind k)) point leg (sym is);
    }
