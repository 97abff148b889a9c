use Rattle.std.proofs.Common.{◌≡◌, ◌-◌, ◌∙◌, ◌++◌, ap, arith, drop, length, length-set, suc}
use Rattle.acas_text.specs.Hex.{hex}
use Rattle.acas_text.proofs.Digits.{hex-last, written-all}
use Rattle.acas_text.proofs.hexadecimal.write_hex.Goals as goal

pub loop-left-preserved : goal.loop-left-preserved
loop-left-preserved c =
    let i = c.loop-left.invariant in
    let place = c.loop-left.left - 1 in
    let one : c.loop-left.left ≡ suc place = omega arith in
    let size = length-set c.loop-left.text place _ in
    record {
      within = omega (arith, i.within, size);
      size = size ∙ i.size;
      written = i.written ∙ ap (λ left. hex left c.loop-left.rest ++ drop left c.loop-left.text) one ∙ hex-last place c.loop-left.rest c.loop-left.text (omega (arith, i.within));
    }

pub returns : goal.returns
returns c = written-all (length c.args.text.now) c.args.value c.loop-left.left c.loop-left.rest c.loop-left.text (omega arith) c.loop-left.invariant.written
