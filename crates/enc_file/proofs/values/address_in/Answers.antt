use Rattle.std.proofs.Common.{◌∙◌, sym}
use Rattle.enc_file.proofs.Spelled.{address-is, address-made, address-none}
use Rattle.enc_file.proofs.values.address_in.Goals as goal

pub returns-in_err-parse_hex : goal.returns-in_err-parse_hex
returns-in_err-parse_hex c = c.from_residual.ensures ∙ sym (address-none c.args.bytes.now c.in_err-parse_hex.ensures)

pub returns : goal.returns
returns c =
    let n = c.in_ok-parse_hex.field-0 in
    address-made n c.new.result c.new.ensures.some c.new.ensures.value ∙ sym (address-is n c.args.bytes.now c.in_ok-parse_hex.ensures.0 c.in_ok-parse_hex.ensures.1)
