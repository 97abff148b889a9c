-- What a good take reads.
use Rattle.std.proofs.Common.{◌≡◌, ℕ, Bool, true, List, Option, Some, None, is_some, option_and_then, sym, refl, ap, ◌∙◌, subst}
use Rattle.acas_base.specs.declared.advisory.ResMsg.{ResMsg}
use Rattle.acas_base.specs.declared.entry.Entry.{Entry}
use Rattle.acas_base.specs.declared.link.CopyPlan.{CopyPlan}
use Rattle.air_rules.proofs.Pace.{SendShows, send-shows}
use Rattle.air_rules.specs.Air.{Air, IsMessageOf, IsSound, copy_plan, is_ra}
use Rattle.air_rules.specs.Due.{is_copy_due}
use Rattle.air_rules.specs.Journal.{Sent, sent_at}
use Rattle.air_rules.specs.Rules.{IsLegal, MayTake}
use Rattle.air_rules.specs.Takes.{complement_read, read_copy}

-- The message of which a copy was taken, and that its complement as taken is the one that was sent.
pub record TakesMessage (air : Air) (K : List Entry) (send copy : ℕ) : Type 0 where
  pub sent : Sent
  pub here : sent_at K send ≡ Some sent
  pub sender_ra : is_ra air sent.sender ≡ true
  pub reads : complement_read (read_copy air (sent_at K send) copy) ≡ complement_read (air.read sent.word)

same-read : (air : Air) → IsSound air → (own copy : ℕ) (sent : Sent) (message : ResMsg) → IsMessageOf air own message → sent.word ≡ air.word message →
    (plan : Option CopyPlan) → copy_plan air sent copy ≡ plan → (read : Option ResMsg) → option_and_then (λ (p : CopyPlan). air.read (air.flip sent.word p.mask)) plan ≡ read → is_some read ≡ true →
    complement_read read ≡ complement_read (air.read sent.word)
same-read air sound own copy sent message of word plan at None e some = absurd (cc)
same-read air sound own copy sent message of word None at (Some read) e some = absurd (cc)
same-read air sound own copy sent message of word (Some plan) at (Some read) e some =
    let same : read ≡ message = sound.apart own sent copy plan message read of at (subst (λ (w : ℕ). air.read (air.flip w plan.mask) ≡ Some read) word e) in
    ap (λ (m : ResMsg). complement_read (Some m)) same ∙ sym (ap complement_read (ap air.read word ∙ sound.reads own message of))

pub takes-message : (air : Air) → IsSound air → (K : List Entry) → IsLegal air K → (own send copy : ℕ) (good : Bool) → MayTake air K own send copy good → good ≡ true → TakesMessage air K send copy
takes-message air sound K l own send copy good may is = go (sent_at K send) refl may.due (sym may.good_is ∙ is)
  where
    go : (o : Option Sent) → sent_at K send ≡ o → is_copy_due air K o own send copy ≡ true → is_some (read_copy air o copy) ≡ true → TakesMessage air K send copy
    go None e due some = absurd (cc)
    go (Some sent) e due some =
        let shows : SendShows air sent.sender sent.receiver sent = send-shows air K l send sent.sender sent.receiver sent (record { here = e; sender = refl; receiver = refl }) in
        record {
          sent = sent;
          here = e;
          sender_ra = shows.sender_ra;
          reads = ap (λ (o : Option Sent). complement_read (read_copy air o copy)) e ∙ same-read air sound sent.sender copy sent shows.message shows.of_sender shows.word_is (copy_plan air sent copy) refl (read_copy air (Some sent) copy) refl some;
        }
