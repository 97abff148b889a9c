use Rattle.std.proofs.Common.{◌≡◌, ◌∙◌, ap, arith, length, length-take-le, sym}
use Rattle.acas_base.proofs.Labels.{label-short, label-whole, length-zeros}
use Rattle.acas_base.proofs.label.Label.new.Goals as goal

pub slice_bounds-bytes-end : goal.slice_bounds-bytes-end
slice_bounds-bytes-end c =
    let short = label-short c.args.text.now (sym c.is_label.ensures ∙ c.if-not-is_label.false) in
    let zeros : length c.no_bytes-bytes.result ≡ 60 = ap length c.no_bytes-bytes.ensures ∙ length-zeros 60 in
    omega (arith, short, zeros)

pub slice_bounds-copy_from_slice-end : goal.slice_bounds-copy_from_slice-end
slice_bounds-copy_from_slice-end c =
    let short = label-short c.args.text.now (sym c.is_label.ensures ∙ c.if-not-is_label.false) in
    let zeros : length c.no_bytes-bytes.result ≡ 60 = ap length c.no_bytes-bytes.ensures ∙ length-zeros 60 in
    sym (length-take-le (length c.args.text.now) c.no_bytes-bytes.result (omega (arith, short, zeros)))

pub copy_from_slice-requires : goal.copy_from_slice-requires
copy_from_slice-requires c =
    let short = label-short c.args.text.now (sym c.is_label.ensures ∙ c.if-not-is_label.false) in
    let zeros : length c.no_bytes-bytes.result ≡ 60 = ap length c.no_bytes-bytes.ensures ∙ length-zeros 60 in
    length-take-le (length c.args.text.now) c.no_bytes-bytes.result (omega (arith, short, zeros))

pub invariant_of-result : goal.invariant_of-result
invariant_of-result c =
    label-whole c.args.text.now c.copy_from_slice.new.self c.no_bytes-bytes.result (sym c.is_label.ensures ∙ c.if-not-is_label.false) c.no_bytes-bytes.ensures c.copy_from_slice.ensures.after
