-- A refused record of a known kind has its fault after those before it.
use Rattle.std.proofs.Common.{◌≡◌, ◌∙◌, ℕ, ◌+◌, ◌-◌, ◌≤◌, Bool, true, false, List, [], ◌∷◌, ◌++◌, length, Option, Some, cond, refl, sym, ap, subst, arith, inl, inr, length-append}
use Rattle.std.specs.Prelude.{◌⊎◌, Err, find, slice_get}
use Rattle.std.specs.Str.{bytes_eq}
use Rattle.std.proofs.lemmas.Bool.{false≢true}
use Rattle.std.proofs.lemmas.List.Elements.{filter-append}
use Rattle.std.proofs.lemmas.Option.{same_Some}
use Rattle.std.proofs.lemmas.Slice.Eq.{bytes_eq-Decides}
use Rattle.enc_file.specs.Conditions.{IsRefused, has_fault, if_kind, if_said, is_first, kind_named}
use Rattle.enc_file.specs.Conditions as stated
use Rattle.enc_file.specs.Earlier.{version_of}
use Rattle.enc_file.specs.Reading.{reading_of}
use Rattle.enc_file.specs.Records.{records_of}
use Rattle.enc_file.specs.Values.{field}
use Rattle.enc_file.specs.declared.refusal.Code.{Code}
use Rattle.enc_file.specs.declared.refusal.Code.TheVariants as code
use Rattle.enc_file.specs.declared.refusal.Refusal.{Refusal}
use Rattle.fault_text.specs.Lines.{IsPlaced, fields_in, file_lines, is_written, written}
use Rattle.fault_text.specs.Names.{word_text}
use Rattle.fault_text.specs.Told.{IsFormat, IsHeaded, IsNamedAgainst, IsRecord, IsRefusedAgainst, Tells, TellsAfterEarlier, against_by, stated_kind, stated_kinds}
use Rattle.fault_text.specs.declared.fault.Why.{Why}
use Rattle.fault_text.specs.declared.names.RecordKind.{RecordKind}
use Rattle.fault_text.specs.declared.names.RecordKind.TheVariants as kind
use Rattle.fault_text.proofs.Refusals.{going, headed-by, kind-by, line-is, next_of, refused-text, stands-record, version-is}

abbrev pub is_after : Code → Bool
is_after code.Repeat = true
is_after code.Unknown = true
is_after code.Count = true
is_after other = false

after-fault : (rows : List (List (List ℕ))) (refusal : Refusal) (r : IsRefused rows refusal) (c : Code) → is_after c ≡ true → has_fault r.earlier (next_of rows refusal r) c ≡ true → if_kind r.earlier (next_of rows refusal r) (against_by c r.earlier) ≡ true
unfolding has_fault
after-fault rows refusal r code.Repeat k h = h
after-fault rows refusal r code.Unknown k h = h
after-fault rows refusal r code.Count k h = h
after-fault rows refusal r code.Header k h = absurd (false≢true k)
after-fault rows refusal r code.Kind k h = absurd (false≢true k)
after-fault rows refusal r code.Fields k h = absurd (false≢true k)
after-fault rows refusal r code.Number k h = absurd (false≢true k)
after-fault rows refusal r code.Address k h = absurd (false≢true k)
after-fault rows refusal r code.Box k h = absurd (false≢true k)
after-fault rows refusal r code.Mask k h = absurd (false≢true k)
after-fault rows refusal r code.NoEnd k h = absurd (false≢true k)
after-fault rows refusal r code.After k h = absurd (false≢true k)

pub after-headed : (text : List ℕ) (refusal : Refusal) → reading_of text ≡ Err refusal → is_after refusal.code ≡ true → IsHeaded text
after-headed text refusal h k =
    let r = refused-text text refusal h in
    let g = going (records_of text) refusal r _ (after-fault (records_of text) refusal r refusal.code k r.fault.faulty) in
    headed-by text refusal r g.unfirst

pub enough-lines : (lines : List (List ℕ)) (at number : ℕ) (line : List ℕ) → IsPlaced lines at number line → at ≤ length (written lines) + 1
enough-lines lines at number line p =
    let parts : written lines ≡ written p.before ++ written (line ∷ p.after) = ap written p.whole ∙ filter-append is_written p.before (line ∷ p.after) in
    omega (arith, p.counted, ap length parts, length-append (written p.before) (written (line ∷ p.after)))

pub named-against : (text : List ℕ) (refusal : Refusal) (line : List ℕ) (version : ℕ) → reading_of text ≡ Err refusal → is_after refusal.code ≡ true → IsRecord (file_lines text) refusal.at line → IsFormat text version
    → IsNamedAgainst text refusal version line
named-against text refusal line version h k place format =
    let r = refused-text text refusal h in
    let g = going (records_of text) refusal r _ (after-fault (records_of text) refusal r refusal.code k r.fault.faulty) in
    let it = kind-by (kind_named (version_of r.earlier) (field g.fields 0)) (λ kind. against_by refusal.code r.earlier kind g.fields) g.passes in
    let line-fields = line-is text refusal line g.fields r place g.is in
    let version-same = version-is text refusal version r g.unfirst format in
    let at : refusal.at - 1 ≡ length r.earlier = omega (arith, r.at) in
    let stands = stands-record text refusal.at place.0 line g.fields place.1 (ap (λ n. slice_get (records_of text) n) at ∙ g.is) in
    record {
      kind = it.kind;
      named = ap (λ v. kind_named v (field (fields_in line) 0)) (sym version-same) ∙ ap (λ (fs : List (List ℕ)). kind_named (version_of r.earlier) (field fs 0)) line-fields ∙ it.named;
      against = λ of e. record {
        refused = r;
        fault = ap (λ (fs : List (List ℕ)). against_by refusal.code r.earlier (stated_kind of) fs) line-fields ∙ ap (λ (sk : stated.RecordKind). against_by refusal.code r.earlier sk g.fields) e ∙ it.passes;
        some = g.unfirst;
        enough = enough-lines (file_lines text) refusal.at place.0 line stands.0;
      };
    }

pub against-as : (text : List ℕ) (refusal : Refusal) (version : ℕ) (line : List ℕ) (a : IsNamedAgainst text refusal version line) (found : Option RecordKind) (kind : RecordKind) → found ≡ Some kind
    → stated_kinds found ≡ kind_named version (field (fields_in line) 0) → IsRefusedAgainst text refusal kind line
against-as text refusal version line a found kind is e = a.against kind (same_Some (stated_kind kind) a.kind (ap stated_kinds (sym is) ∙ e ∙ a.named))

-- The word of a kind that is named.
passes-find : (xs : List stated.RecordKind) (test : stated.RecordKind → Bool) (k : stated.RecordKind) → find test xs ≡ Some k → test k ≡ true
passes-find [] test k h = absurd (cc h)
passes-find (x ∷ xs) test k h = by (test x) refl h (passes-find xs test k) where
  by : (b : Bool) → test x ≡ b → cond b (Some x) (find test xs) ≡ Some k → (find test xs ≡ Some k → test k ≡ true) → test k ≡ true
  by true e h later = ap test (sym (same_Some x k h)) ∙ e
  by false e h later = later h

word-same : (k : RecordKind) → stated.kind_word (stated_kind k) ≡ word_text k
word-same kind.Run = refl
word-same kind.Gains = refl
word-same kind.Craft = refl
word-same kind.Climb = refl
word-same kind.Leg = refl
word-same kind.Miss = refl
word-same kind.Plan = refl
word-same kind.Fate = refl
word-same kind.End = refl
word-same kind.Profile = refl
word-same kind.Name = refl
word-same kind.Clock = refl
word-same kind.Call = refl

pub kind-word : (version : ℕ) (line : List ℕ) (found : Option RecordKind) (k : RecordKind) → found ≡ Some k → stated_kinds found ≡ kind_named version (field (fields_in line) 0) → word_text k ≡ field (fields_in line) 0
kind-word version line found k is e =
    let named : kind_named version (field (fields_in line) 0) ≡ Some (stated_kind k) = sym e ∙ ap stated_kinds is in
    let same = passes-find (stated.kinds_of version) (λ kind. bytes_eq (field (fields_in line) 0) (stated.kind_word kind)) (stated_kind k) named in
    sym (word-same k) ∙ sym ((bytes_eq-Decides (field (fields_in line) 0) (stated.kind_word (stated_kind k))).0 same)

pub is-after : (c : Code) → (c ≡ code.Repeat) ⊎ ((c ≡ code.Unknown) ⊎ (c ≡ code.Count)) → is_after c ≡ true
is-after c (inl e) = ap is_after e
is-after c (inr (inl e)) = ap is_after e
is-after c (inr (inr e)) = ap is_after e

by-code : (text : List ℕ) (refusal : Refusal) (line : List ℕ) (w : Why) (c : Code) → refusal.code ≡ c → TellsAfterEarlier text refusal line w → TellsAfterEarlier text (record { at = refusal.at; code = c }) line w
by-code text refusal line w c e t = subst (λ (d : Code). TellsAfterEarlier text (record { at = refusal.at; code = d }) line w) e t

back : (text : List ℕ) (refusal : Refusal) (line : List ℕ) (w : Why) (c : Code) → refusal.code ≡ c → Tells c text refusal.at line w → Tells refusal.code text refusal.at line w
back text refusal line w c e t = subst (λ (d : Code). Tells d text refusal.at line w) (sym e) t

pub told-after : (text : List ℕ) (refusal : Refusal) (line : List ℕ) (w : Why) → (refusal.code ≡ code.Repeat) ⊎ ((refusal.code ≡ code.Unknown) ⊎ (refusal.code ≡ code.Count)) → TellsAfterEarlier text refusal line w
    → Tells refusal.code text refusal.at line w
told-after text refusal line w (inl e) t = back text refusal line w code.Repeat e (by-code text refusal line w code.Repeat e t)
told-after text refusal line w (inr (inl e)) t = back text refusal line w code.Unknown e (by-code text refusal line w code.Unknown e t)
told-after text refusal line w (inr (inr e)) t = back text refusal line w code.Count e (by-code text refusal line w code.Count e t)
