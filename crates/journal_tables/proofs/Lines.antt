-- Lines, from the fields that are added one after the other.
use Rattle.std.proofs.Common.{◌≡◌, ℕ, List, [], ◌∷◌, ◌++◌, Option, Some, None, refl, sym, ap, ◌∙◌, append_assoc}
use Rattle.std.specs.Fmt.{decimal}
use Rattle.std.specs.List.{join_with_byte}
use Rattle.acas_base.specs.declared.link.CopyPlan.{CopyPlan}
use Rattle.acas_lines.specs.Lines.{line_of}
use Rattle.acas_text.specs.Hex.{hex}
use Rattle.acas_text.specs.Fields.{mark}
use Rattle.advisory_report.specs.Words.{complement_text}
use Rattle.journal_tables.specs.Messages.{copy_line, message_fields, take_fields}
use Rattle.journal_tables.specs.declared.messages.Message.{Message}
use Rattle.journal_tables.specs.declared.takes.CopyTake.{CopyTake}
use Rattle.rec_text.specs.Entries.{outcome}

-- A field is added to what was made so far.
pub add-field : {old base new f g : List ℕ} → new ≡ old ++ 44 ∷ f → old ≡ base → f ≡ g → new ≡ base ++ 44 ∷ g
add-field added so_far field = added ∙ (λ t. so_far t ++ 44 ∷ field t)

-- What there is of a line goes on with fields.
abbrev with_fields : List ℕ → List (List ℕ) → List ℕ
with_fields line [] = line
with_fields line (field ∷ rest) = with_fields (line ++ 44 ∷ field) rest

first-two : (line field : List ℕ) (rest : List (List ℕ)) → join_with_byte 44 ((line ++ 44 ∷ field) ∷ rest) ≡ line ++ 44 ∷ join_with_byte 44 (field ∷ rest)
first-two line field [] = refl
first-two line field (next ∷ rest) = append_assoc line (44 ∷ field) (44 ∷ join_with_byte 44 (next ∷ rest))

joined : (line : List ℕ) (fields : List (List ℕ)) → with_fields line fields ≡ join_with_byte 44 (line ∷ fields)
joined line [] = refl
joined line (field ∷ rest) = joined (line ++ 44 ∷ field) rest ∙ first-two line field rest

pub seven-fields : (a b x y alt modelled word : List ℕ) →
    ((((((a ++ 44 ∷ b) ++ 44 ∷ x) ++ 44 ∷ y) ++ 44 ∷ alt) ++ 44 ∷ modelled) ++ 44 ∷ word) ++ 10 ∷ [] ≡ line_of (a ∷ b ∷ x ∷ y ∷ alt ∷ modelled ∷ word ∷ [])
seven-fields a b x y alt modelled word = ap (λ (l : List ℕ). l ++ 10 ∷ []) (joined a (b ∷ x ∷ y ∷ alt ∷ modelled ∷ word ∷ []))

thirteen-fields : (h a b d e f g copy hold at cycle result changed : List ℕ) →
    (((join_with_byte 44 (h ∷ a ∷ b ∷ d ∷ e ∷ f ∷ g ∷ []) ++ 44 ∷ copy) ++ 44 ∷ hold) ++ 44 ∷ join_with_byte 44 (at ∷ cycle ∷ result ∷ changed ∷ [])) ++ 10 ∷ []
    ≡ line_of (h ∷ a ∷ b ∷ d ∷ e ∷ f ∷ g ∷ copy ∷ hold ∷ at ∷ cycle ∷ result ∷ changed ∷ [])
thirteen-fields h a b d e f g copy hold at cycle result changed =
    let sent : List (List ℕ) = a ∷ b ∷ d ∷ e ∷ f ∷ g ∷ [] in
    let start : List ℕ = with_fields h (a ∷ b ∷ d ∷ e ∷ f ∷ g ∷ copy ∷ hold ∷ []) in
    let end : List (List ℕ) = at ∷ cycle ∷ result ∷ changed ∷ [] in
    ap (λ (l : List ℕ). (((l ++ 44 ∷ copy) ++ 44 ∷ hold) ++ 44 ∷ join_with_byte 44 end) ++ 10 ∷ []) (sym (joined h sent))
    ∙ ap (λ (l : List ℕ). l ++ 10 ∷ []) (sym (joined start end) ∙ joined h (a ∷ b ∷ d ∷ e ∷ f ∷ g ∷ copy ∷ hold ∷ at ∷ cycle ∷ result ∷ changed ∷ []))

pub copy-fields : (message : Message) (copy : ℕ) (plan : CopyPlan) (take : Option CopyTake) →
    (((join_with_byte 44 (message_fields message) ++ 44 ∷ decimal copy) ++ 44 ∷ decimal plan.hold) ++ 44 ∷ join_with_byte 44 (take_fields take)) ++ 10 ∷ [] ≡ copy_line message copy plan take
copy-fields m copy plan None =
    thirteen-fields (hex 6 m.sender) (hex 6 m.receiver) (decimal m.number) (decimal m.cycle) (decimal m.at) (complement_text m.sets) (complement_text m.cancels) (decimal copy) (decimal plan.hold) [] [] [] []
copy-fields m copy plan (Some take) =
    thirteen-fields (hex 6 m.sender) (hex 6 m.receiver) (decimal m.number) (decimal m.cycle) (decimal m.at) (complement_text m.sets) (complement_text m.cancels) (decimal copy) (decimal plan.hold)
    (decimal take.at) (decimal take.cycle) (outcome take.good) (mark take.changed)
