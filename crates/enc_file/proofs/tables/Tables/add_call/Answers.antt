use Rattle.std.proofs.Common.{◌≡◌, ◌∙◌, ◌∷◌, ◌++◌, [], ap, arith, rules, sym, Some, None, true, false}
use Rattle.std.specs.Result.{is_ok}
use Rattle.acas_base.specs.declared.label.Call.{Call}
use Rattle.enc_file.specs.Earlier.{call_by, calls_of, crafts_of, index_of}
use Rattle.enc_file.specs.Faults.{fault_of, has_call, is_called}
use Rattle.enc_file.specs.Tables.{Holds}
use Rattle.enc_file.specs.declared.record.Record.{Record}
use Rattle.enc_file.specs.declared.record.Record.TheVariants as said
use Rattle.enc_file.specs.declared.refusal.Code.TheVariants as code
use Rattle.enc_file.proofs.Refused.{call-fine, call-repeated, call-signed, call-unknown, refuses, wanting}
use Rattle.enc_file.proofs.Tabled.{craft-within, held-call}
use Rattle.enc_file.proofs.tables.Tables.add_call.Goals as goal

pub returns-then-is_called : goal.returns-then-is_called
returns-then-is_called c = λ earlier going format h.
    let same : c.is_called.result ≡ is_called (calls_of earlier) c.args.sign = c.is_called.ensures ∙ ap (λ calls. is_called calls c.bytes.result.now) (c.deref.ensures.value ∙ h.calls) ∙ ap (is_called (calls_of earlier)) c.bytes.ensures.value in
    refuses earlier c.args.self.now (λ why. fault_of earlier (said.Call c.args.address c.args.sign) ≡ Some why) code.Repeat c.refused.result h
    (call-signed earlier c.args.address c.args.sign (sym same ∙ c.if-is_called.true)) c.refused.ensures

pub returns-in_default : goal.returns-in_default
returns-in_default c = λ earlier going format h.
    let same : c.is_called.result ≡ is_called (calls_of earlier) c.args.sign = c.is_called.ensures ∙ ap (λ calls. is_called calls c.bytes.result.now) (c.deref.ensures.value ∙ h.calls) ∙ ap (is_called (calls_of earlier)) c.bytes.ensures.value in
    let at : index_of (crafts_of earlier) c.args.address ≡ None = ap (λ crafts. index_of crafts c.args.address) (sym h.crafts) ∙ sym c.index_of.ensures ∙ c.in_default.is in
    refuses earlier c.args.self.now (λ why. fault_of earlier (said.Call c.args.address c.args.sign) ≡ Some why) code.Unknown c.refused-in_default.result h
    (call-unknown earlier c.args.address c.args.sign (sym same ∙ c.if-is_called.false) at) c.refused-in_default.ensures

pub returns-then-has_call : goal.returns-then-has_call
returns-then-has_call c = λ earlier going format h.
    let same : c.is_called.result ≡ is_called (calls_of earlier) c.args.sign = c.is_called.ensures ∙ ap (λ calls. is_called calls c.bytes.result.now) (c.deref.ensures.value ∙ h.calls) ∙ ap (is_called (calls_of earlier)) c.bytes.ensures.value in
    let at : index_of (crafts_of earlier) c.args.address ≡ Some c.in-Some.craft = ap (λ crafts. index_of crafts c.args.address) (sym h.crafts) ∙ sym c.index_of.ensures ∙ c.in-Some.is in
    let has : c.has_call.result ≡ has_call (calls_of earlier) c.in-Some.craft = c.has_call.ensures ∙ ap (λ calls. has_call calls c.in-Some.craft) (c.deref-2.ensures.value ∙ h.calls) in
    refuses earlier c.args.self.now (λ why. fault_of earlier (said.Call c.args.address c.args.sign) ≡ Some why) code.Repeat c.refused-then-has_call.result h
    (call-repeated earlier c.args.address c.args.sign c.in-Some.craft (sym same ∙ c.if-is_called.false) at (sym has ∙ c.if-has_call.true)) c.refused-then-has_call.ensures

pub overflow_cast-craft : goal.overflow_cast-craft
overflow_cast-craft c =
    let h = c.requires.held.holds in
    let earlier = c.requires.held.earlier in
    let at : index_of (crafts_of earlier) c.args.address ≡ Some c.in-Some.craft = ap (λ crafts. index_of crafts c.args.address) (sym h.crafts) ∙ sym c.index_of.ensures ∙ c.in-Some.is in
    omega (arith, craft-within earlier c.args.address c.in-Some.craft h.read at)

pub returns-in_err-push : goal.returns-in_err-push
returns-in_err-push c = λ earlier going format h. wanting _ _ _ c.from_residual.result c.from_residual.ensures.1

pub returns : goal.returns
returns c = λ earlier going format h.
    let same : c.is_called.result ≡ is_called (calls_of earlier) c.args.sign = c.is_called.ensures ∙ ap (λ calls. is_called calls c.bytes.result.now) (c.deref.ensures.value ∙ h.calls) ∙ ap (is_called (calls_of earlier)) c.bytes.ensures.value in
    let at : index_of (crafts_of earlier) c.args.address ≡ Some c.in-Some.craft = ap (λ crafts. index_of crafts c.args.address) (sym h.crafts) ∙ sym c.index_of.ensures ∙ c.in-Some.is in
    let has : c.has_call.result ≡ has_call (calls_of earlier) c.in-Some.craft = c.has_call.ensures ∙ ap (λ calls. has_call calls c.in-Some.craft) (c.deref-2.ensures.value ∙ h.calls) in
    let fine = call-fine earlier c.args.address c.args.sign c.in-Some.craft (sym same ∙ c.if-is_called.false) at (sym has ∙ c.if-has_call.false) in
    let good : is_ok c.push.result ≡ true = search rules in
    let pushed = rw good at c.push.ensures.items in
    let new : c.push.new.self.items ≡ c.args.self.now.calls.items ++ call_by c.args.sign c.in-Some.craft ∷ [] = pushed ∙ ap (λ (call : Call). c.args.self.now.calls.items ++ call ∷ []) c.call_by.ensures in
    held-call earlier c.args.self.now c.args.address c.args.sign c.in-Some.craft _ h going (c.requires.said, format, fine) at new
