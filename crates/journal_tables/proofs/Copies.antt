-- The copies of a message, and their lines.
use Rattle.std.proofs.Common.{◌≡◌, ◌≢◌, ℕ, zero, suc, List, [], ◌∷◌, take, Option, refl, sym, ap, ◌∙◌}
use Rattle.std.specs.List.{flat_map, range_with_len}
use Rattle.acas_base.specs.Fates.{copies_of}
use Rattle.acas_base.specs.declared.link.CopyPlan.{CopyPlan}
use Rattle.acas_base.specs.declared.link.Fate.{Fate}
use Rattle.journal_tables.specs.Messages.{lines_by, lines_of_copy, lost_line}
use Rattle.journal_tables.specs.declared.messages.Message.{Message}
use Rattle.journal_tables.specs.declared.takes.CopyTake.{CopyTake}

-- Without copies there is one line, and with copies a line for each.
pub lines-none : (message : Message) (fate : Fate) (plans : List CopyPlan) (takes : ℕ → Option CopyTake) → copies_of fate ≡ plans → fate.copies ≡ 0 → lost_line message ∷ [] ≡ lines_by message plans takes
lines-none message fate plans takes same none = ap (λ (p : List CopyPlan). lines_by message p takes) (sym (ap (λ (n : ℕ). take n (fate.first ∷ fate.second ∷ fate.third ∷ [])) none) ∙ same)

some-copies : (n : ℕ) (a b d : CopyPlan) → n ≢ 0 → take n (a ∷ b ∷ d ∷ []) ≡ [] → ⊥
some-copies zero a b d some e = some refl
some-copies (suc n) a b d some e = cc

pub lines-some : (message : Message) (fate : Fate) (plans : List CopyPlan) (takes : ℕ → Option CopyTake) → copies_of fate ≡ plans → fate.copies ≢ 0 →
    flat_map (lines_of_copy message plans takes) (range_with_len 0 3) ≡ lines_by message plans takes
lines-some message fate [] takes same some = absurd (some-copies fate.copies fate.first fate.second fate.third some same)
lines-some message fate (first ∷ rest) takes same some = refl
