-- A single word that is none of the words of commands says none.
use Rattle.std.proofs.Common.{◌≡◌, ◌∙◌, ℕ, List, [], ◌∷◌, false, true, get_or, refl, ap, inl, inr}
use Rattle.std.specs.Prelude.{◌≢◌, codes}
use Rattle.std.proofs.lemmas.Bool.{false≢true}
use Rattle.std.specs.Str.{bytes_eq}
use Rattle.acas_top.specs.Words.{AreNoRun, SayPage, tool_word}
use Rattle.acas_top.specs.declared.words.Page.{Page}
use Rattle.acas_top.specs.declared.words.Page.TheVariants.{Help, Version}
use Rattle.acas_top.specs.declared.words.Threaded.TheVariants.{Play, Sum}
use Rattle.acas_top.specs.declared.words.Tool.{Tool}
use Rattle.pair_ways.specs.declared.scope.Scope.{Scope}
use Rattle.pair_ways.specs.declared.scope.Scope.TheVariants.{Losses, Orders}
use Rattle.possibilities.specs.Listing.{scope_word}
use Rattle.acas_top.specs.declared.words.Tool.TheVariants.{Messages, Picture, Places, Reports, Response, Summary, Watch, Why}

-- A word that the test tells from another one is another one.
different : (word other : List ℕ) → bytes_eq other other ≡ true → false ≡ bytes_eq word other → word ≢ other
different word other same unlike is = false≢true (unlike ∙ ap (λ w. bytes_eq w other) is ∙ same)

-- The one word of a list of one.
abbrev first : List (List ℕ) → List ℕ
first words = get_or words 0 []

pub other-than-runs : (word : List ℕ) → false ≡ bytes_eq word (codes "play") → false ≡ bytes_eq word (codes "sum") → AreNoRun (word ∷ [])
other-than-runs word play sum Play = λ is. different word (codes "play") refl play (ap first is)
other-than-runs word play sum Sum = λ is. different word (codes "sum") refl sum (ap first is)

pub other-than-tools : (word : List ℕ) → false ≡ bytes_eq word (codes "messages") → false ≡ bytes_eq word (codes "picture") → false ≡ bytes_eq word (codes "places") → false ≡ bytes_eq word (codes "reports") → false ≡ bytes_eq word (codes "response") → false ≡ bytes_eq word (codes "summary") → false ≡ bytes_eq word (codes "watch") → false ≡ bytes_eq word (codes "why") → (tool : Tool) → word ≢ tool_word tool
other-than-tools word messages picture places reports response summary watch why Messages = different word (codes "messages") refl messages
other-than-tools word messages picture places reports response summary watch why Picture = different word (codes "picture") refl picture
other-than-tools word messages picture places reports response summary watch why Places = different word (codes "places") refl places
other-than-tools word messages picture places reports response summary watch why Reports = different word (codes "reports") refl reports
other-than-tools word messages picture places reports response summary watch why Response = different word (codes "response") refl response
other-than-tools word messages picture places reports response summary watch why Summary = different word (codes "summary") refl summary
other-than-tools word messages picture places reports response summary watch why Watch = different word (codes "watch") refl watch
other-than-tools word messages picture places reports response summary watch why Why = different word (codes "why") refl why

pub other-than-scopes : (word : List ℕ) → false ≡ bytes_eq word (codes "orders") → false ≡ bytes_eq word (codes "losses") → (scope : Scope) → word ≢ scope_word scope
other-than-scopes word orders losses Orders = different word (codes "orders") refl orders
other-than-scopes word orders losses Losses = different word (codes "losses") refl losses

pub other-than-pages : (word : List ℕ) → false ≡ bytes_eq word (codes "--help") → false ≡ bytes_eq word (codes "-h") → false ≡ bytes_eq word (codes "help") → false ≡ bytes_eq word (codes "--version") → (page : Page) → SayPage (word ∷ []) page → ⊥
other-than-pages word long short plain version Help (inl is) = different word (codes "--help") refl long (ap first is)
other-than-pages word long short plain version Help (inr (inl is)) = different word (codes "-h") refl short (ap first is)
other-than-pages word long short plain version Help (inr (inr is)) = different word (codes "help") refl plain (ap first is)
other-than-pages word long short plain version Version is = different word (codes "--version") refl version (ap first is)
