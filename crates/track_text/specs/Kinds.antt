-- The kinds of records that a text of tracks has, and what has to stand in the records that are its own.
use Rattle.std.specs.Prelude.{◌≡◌, ℕ, Bool, true, false, List, [], ◌∷◌, codes, Some}
use Rattle.enc_file.specs.Conditions.{CraftKind}
use Rattle.enc_file.specs.Values.{field}
use Rattle.fault_text.specs.Lines.{fields_in}
use Rattle.fault_text.specs.Names.{stated_kind, word_text}
use Rattle.fault_text.specs.declared.names.FieldName.{FieldName}
use Rattle.fault_text.specs.declared.names.FieldName.TheVariants as name
use Rattle.fault_text.specs.declared.names.RecordKind.{RecordKind}
use Rattle.fault_text.specs.declared.names.RecordKind.TheVariants as kind
use Rattle.track_text.specs.Conditions.{PointKind, SharedKind, TrackKind, kind_named}
use Rattle.track_text.specs.declared.kinds.LineKind.{LineKind}
use Rattle.track_text.specs.declared.kinds.LineKind.TheVariants as of
use Rattle.track_text.specs.declared.kinds.OwnKind.{OwnKind}
use Rattle.track_text.specs.declared.kinds.OwnKind.TheVariants as own

abbrev pub own_word : OwnKind → List ℕ
own_word own.Craft = codes "craft"
own_word own.Point = codes "at"

abbrev pub own_form : OwnKind → List ℕ
own_form own.Craft = codes "craft,ADDRESS,KIND"
own_form own.Point = codes "at,ADDRESS,MS,X,Y,Z"

-- The fields after the first one.
abbrev pub own_names : OwnKind → List FieldName
own_names own.Craft = name.Address ∷ name.Kind ∷ []
own_names own.Point = name.Address ∷ name.Ms ∷ name.X ∷ name.Y ∷ name.Z ∷ []

-- A record of this kind is as in an encounter. There are no legs.
abbrev pub is_shared : RecordKind → Bool
is_shared kind.Craft = false
is_shared kind.Leg = false
is_shared other = true

-- A kind, as the conditions of the codes name it.
abbrev pub stated_own : OwnKind → TrackKind
stated_own own.Craft = SharedKind CraftKind
stated_own own.Point = PointKind

abbrev pub stated_line : LineKind → TrackKind
stated_line (of.Own own) = stated_own own
stated_line (of.Shared kind) = SharedKind (stated_kind kind)

-- A word names this kind.
abbrev pub IsWordOf : LineKind → List ℕ → Type 0
IsWordOf (of.Own own) word = own_word own ≡ word
IsWordOf (of.Shared kind) word = (word_text kind ≡ word) × (is_shared kind ≡ true)

-- The first field of a line names this kind.
abbrev pub IsLineKind : List ℕ → LineKind → Type 0
IsLineKind line kind = IsWordOf kind (field (fields_in line) 0)

-- A word names this kind, where the header stands for this version of the encounter.
pub record IsKindNamed (version : ℕ) (word : List ℕ) (kind : LineKind) : Type 0 where
  pub names : IsWordOf kind word
  pub named : kind_named version word ≡ Some (stated_line kind)
