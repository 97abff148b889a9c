use Rattle.word_text.proofs.Spelled.{some-digits, some-value}
use Rattle.word_text.proofs.digits.parse.Goals as goal

pub returns-clause-digits : goal.returns-clause-digits
returns-clause-digits c = some-digits c.args.text.now c.parse_hex.result c.parse_hex.ensures

pub returns-clause-value : goal.returns-clause-value
returns-clause-value c = some-value c.args.text.now c.parse_hex.result c.parse_hex.ensures
