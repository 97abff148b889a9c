use Rattle.std.proofs.Common.{◌∙◌, sym}
use Rattle.enc_file.proofs.Spelled.{mask-is, mask-none}
use Rattle.enc_file.proofs.values.mask_in.Goals as goal

pub returns-in_err-parse_hex : goal.returns-in_err-parse_hex
returns-in_err-parse_hex c = c.from_residual.ensures ∙ sym (mask-none c.args.bytes.now c.in_err-parse_hex.ensures)

pub returns : goal.returns
returns c = sym (mask-is c.in_ok-parse_hex.field-0 c.args.bytes.now c.in_ok-parse_hex.ensures.0 c.in_ok-parse_hex.ensures.1)
