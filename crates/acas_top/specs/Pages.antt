-- The pages that the program writes about itself.
use Rattle.std.specs.Prelude.{ℕ, Bool, List, length, ltb, map, ◌++◌}
use Rattle.std.specs.List.{list_all}
use Rattle.std.specs.Borrow.{Bor}
use Rattle.acas_text.specs.declared.line.TheConstants.{LINE_BYTES}
use Rattle.acas_top.specs.declared.pages.TheConstants.{USAGE, OF_ENCOUNTERS, OF_RECORDINGS, OF_NOTHING, STATUSES, EXAMPLE, VERSION}
use Rattle.acas_top.specs.declared.words.Page.{Page}
use Rattle.acas_top.specs.declared.words.Page.TheVariants.{Help, Version}

-- The texts that these references point to.
abbrev pub texts_of : List (Bor (List ℕ)) → List (List ℕ)
texts_of lines = map (λ (line : Bor (List ℕ)). line.now) lines

-- The lines of `--help`, part by part. For the proof: only `put_help` opens this definition, since the page is long.
unfoldable pub help_lines : List (List ℕ)
help_lines =
    map (λ line. line.now) USAGE ++ (map (λ line. line.now) OF_ENCOUNTERS ++ (map (λ line. line.now) OF_RECORDINGS ++ (map (λ line. line.now) OF_NOTHING ++ (map (λ line. line.now) STATUSES ++ (map (λ line. line.now) EXAMPLE)))))

-- The lines of a page, which are those of its constants. For the proof: only `put_page` opens this definition.
unfoldable pub page_lines : Page → List (List ℕ)
page_lines Help = help_lines
page_lines Version = map (λ line. line.now) VERSION

-- Each text fits a line.
abbrev pub are_short : List (Bor (List ℕ)) → Bool
are_short lines = list_all (λ line. ltb (length line.now) LINE_BYTES) lines
