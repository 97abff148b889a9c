-- The records of an encounter's text. Fields stand between commas. There is no header row, and a quote is a byte like
-- any other.
use Rattle.std.specs.Prelude.{ℕ, List, false}
use Rattle.csv.specs.declared.parser.Config.{Config}
use Rattle.csv.specs.Reading.{default_config, records, strip_bom}

-- The defaults of CSV, with quoting off.
abbrev pub unquoted : Config
unquoted = record default_config { quoting = false }

-- Every record of a text, as its fields. One byte order mark at the start of the text is skipped, and so are blank
-- lines.
abbrev pub records_of : List ℕ → List (List (List ℕ))
records_of text = records unquoted (strip_bom text)
