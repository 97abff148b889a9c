-- The tables before the first record.
use Rattle.std.proofs.Common.{◌≡◌, ℕ, zero, suc, ◌<◌, List, [], length, get_or, map, replicate, None, refl, sym, ap, ◌∙◌, arith, subst, Vec, Global}
use Rattle.std.proofs.lemmas.List.{get_or-map, length-map}
use Rattle.acas_base.specs.declared.TheConstants.{CRAFTS}
use Rattle.enc_file.specs.Tables.{Holds}
use Rattle.enc_file.specs.declared.tables.Tables.{Tables}
use Rattle.track_file.specs.Track.{IsTrack}
use Rattle.track_file.specs.declared.track.Point.{Point}
use Rattle.track_text.specs.Tables.{AreBare, KeepsTracks}

abbrev points-of : Vec Point Global → List Point
points-of v = v.items

abbrev nothing : List Point
nothing = []

none-there : (n k : ℕ) → get_or (replicate n nothing) k nothing ≡ nothing
none-there zero k = refl
none-there (suc n) zero = refl
none-there (suc n) (suc k) = none-there n k

none-here : (xs : List (List Point)) (n k : ℕ) → xs ≡ replicate n [] → get_or xs k [] ≡ []
none-here xs n k is = ap (λ (l : List (List Point)). get_or l k []) is ∙ none-there n k

no-point : (tracks : List (Vec Point Global)) (k : ℕ) (d : Vec Point Global) → AreBare tracks → k < length tracks → (get_or tracks k d).items ≡ []
no-point tracks k d bare within = sym (get_or-map points-of tracks k d [] within) ∙ none-here (map points-of tracks) CRAFTS k bare

many-bare : (tracks : List (Vec Point Global)) → AreBare tracks → length tracks ≡ CRAFTS
many-bare tracks bare = sym (length-map tracks points-of) ∙ ap (λ (l : List (List Point)). length l) bare ∙ refl

no-track : IsTrack []
no-track = record { ranges = λ k d h. absurd (omega (arith, h)); rising = λ k d h. absurd (omega (arith, h)) }

pub nothing-kept : (tables : Tables) (tracks : Vec (Vec Point Global) Global) → Holds [] tables → AreBare tracks.items → KeepsTracks [] (record { count = 0; version = 0; tables = tables; tracks = tracks; made = None })
nothing-kept tables tracks h bare = record {
  count = refl;
  unended = refl;
  version = refl;
  tables = h;
  many = many-bare tracks.items bare;
  points = λ craft d low. no-point tracks.items craft d bare (omega (arith, low, many-bare tracks.items bare));
  rising = λ k d within. subst IsTrack (sym (no-point tracks.items k d bare within)) no-track;
  unmade = refl;
  begun = λ some. absurd (omega (arith, some));
}
