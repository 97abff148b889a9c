-- Messages that are counted, entry by entry.
use Rattle.std.proofs.Common.{◌≡◌, ℕ, ◌+◌, ◌≤◌, Bool, true, false, List, ◌∷◌, refl, sym, ap, ◌∙◌, arith}
use Rattle.acas_base.specs.Encounter.{Parts}
use Rattle.acas_base.specs.declared.entry.Entry.{Entry}
use Rattle.air_rules.proofs.Pace.{count-no, count-yes}
use Rattle.air_rules.specs.Journal.{count_of}
use Rattle.deliveries.specs.Counts.{AreCounts, AreFew, WithOne, counted, one_where, sends_one}
use Rattle.deliveries.specs.Mishaps.{befalls_sent}
use Rattle.deliveries.specs.declared.counts.Counts.{Counts}
use Rattle.deliveries.specs.declared.mishap.Mishap.{Mishap}
use Rattle.deliveries.specs.declared.mishap.Mishap.TheVariants.{Lost, Spoilt, HeldBack, Repeated, Untaken}

count-one : (test : Entry → Bool) (x : Entry) (K : List Entry) → count_of test K + one_where (test x) ≡ count_of test (x ∷ K)
count-one test x K = go (test x) refl
  where
    go : (b : Bool) → test x ≡ b → count_of test K + one_where b ≡ count_of test (x ∷ K)
    go true e = sym (count-yes test x K e)
    go false e = (let n : count_of test (x ∷ K) ≡ count_of test K = count-no test x K e in omega arith)

grown : (test : Entry → Bool) (x : Entry) (K : List Entry) (old new : ℕ) → old ≡ count_of test K → new ≡ old + one_where (test x) → new ≡ count_of test (x ∷ K)
grown test x K old new so_far step = step ∙ ap (λ (n : ℕ). n + one_where (test x)) so_far ∙ count-one test x K

pub counts-more : (e : Parts) (J K : List Entry) (x : Entry) (old new : Counts) → AreCounts e J K old → WithOne old new (sends_one x) (λ mishap. befalls_sent e J mishap x) → AreCounts e J (x ∷ K) new
counts-more e J K x old new a w = record {
  sent = grown sends_one x K old.sent new.sent a.sent w.sent;
  lost = grown (befalls_sent e J Lost) x K old.lost new.lost a.lost w.lost;
  spoilt = grown (befalls_sent e J Spoilt) x K old.spoilt new.spoilt a.spoilt w.spoilt;
  held_back = grown (befalls_sent e J HeldBack) x K old.held_back new.held_back a.held_back w.held_back;
  repeated = grown (befalls_sent e J Repeated) x K old.repeated new.repeated a.repeated w.repeated;
  untaken = grown (befalls_sent e J Untaken) x K old.untaken new.untaken a.untaken w.untaken;
}

few-one : (b : Bool) (old new most : ℕ) → old ≤ most → new ≡ old + one_where b → new ≤ most + 1
few-one true old new most h e = omega (arith, e)
few-one false old new most h e = omega (arith, e)

pub few-more : (old new : Counts) (sends : Bool) (befell : Mishap → Bool) (most : ℕ) → AreFew old most → WithOne old new sends befell → AreFew new (most + 1)
few-more old new sends befell most f w = record {
  sent = few-one sends old.sent new.sent most f.sent w.sent;
  lost = few-one (befell Lost) old.lost new.lost most f.lost w.lost;
  spoilt = few-one (befell Spoilt) old.spoilt new.spoilt most f.spoilt w.spoilt;
  held_back = few-one (befell HeldBack) old.held_back new.held_back most f.held_back w.held_back;
  repeated = few-one (befell Repeated) old.repeated new.repeated most f.repeated w.repeated;
  untaken = few-one (befell Untaken) old.untaken new.untaken most f.untaken w.untaken;
}

pub few-up : (counts : Counts) (less most : ℕ) → less ≤ most → AreFew counts less → AreFew counts most
few-up counts less most h f = record {
  sent = (let n : counts.sent ≤ less = f.sent in omega arith);
  lost = (let n : counts.lost ≤ less = f.lost in omega arith);
  spoilt = (let n : counts.spoilt ≤ less = f.spoilt in omega arith);
  held_back = (let n : counts.held_back ≤ less = f.held_back in omega arith);
  repeated = (let n : counts.repeated ≤ less = f.repeated in omega arith);
  untaken = (let n : counts.untaken ≤ less = f.untaken in omega arith);
}

pub counted-is : (e : Parts) (J K : List Entry) (counts : Counts) → AreCounts e J K counts → (mishap : Mishap) → counted counts mishap ≡ count_of (befalls_sent e J mishap) K
counted-is e J K counts a Lost = a.lost
counted-is e J K counts a Spoilt = a.spoilt
counted-is e J K counts a HeldBack = a.held_back
counted-is e J K counts a Repeated = a.repeated
counted-is e J K counts a Untaken = a.untaken
