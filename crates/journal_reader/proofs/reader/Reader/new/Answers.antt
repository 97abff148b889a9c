use Rattle.std.proofs.Common.{List, ◌+◌, ◌*◌, length, get_or, zero-le, refl, ap, ◌∙◌, arith}
use Rattle.std.proofs.lemmas.List.{get_or-replicate, length-replicate}
use Rattle.journal_reader.specs.Links.{no_link}
use Rattle.journal_reader.specs.declared.links.Link.{Link}
use Rattle.journal_reader.proofs.reader.Reader.new.Goals as goal

pub invariant_of-result : goal.invariant_of-result
invariant_of-result c = record {
  within = zero-le;
  kept = record {
    crafts = refl;
    pairs = ap length c.no_links.ensures ∙ length-replicate 256 no_link;
    count = λ own h. get_or-replicate 16 own 0 0 h;
    link = λ own other h k. ap (λ (links : List Link). get_or links (own * 16 + other) no_link) c.no_links.ensures ∙ get_or-replicate 256 (own * 16 + other) no_link no_link (omega arith);
  };
}
