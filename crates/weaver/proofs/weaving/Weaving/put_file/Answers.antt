use Rattle.std.proofs.Common.{[], ◌∷◌, length, sym, ap, ◌∙◌, arith}
use Rattle.model.proofs.Places.{length_field}
use Rattle.applet.specs.Applets.{meant}
use Rattle.weaver.proofs.WovenFile.{count, file_length, file_put}
use Rattle.weaver.proofs.weaving.Weaving.put_file.Goals as goal

pub put_field-requires-clause-room : goal.put_field-requires-clause-room
put_field-requires-clause-room g c =
    let w = c.args.self.now in
    let f = file_length (g.P.Policy.meaning w.policy.now) (g.P.Policy.blocks w.policy.now) (meant w.applet.now) in
    let room = c.requires.room in
    omega arith

pub put_field-requires-2-clause-room : goal.put_field-requires-2-clause-room
put_field-requires-2-clause-room g c =
    let w = c.args.self.now in
    let f = file_length (g.P.Policy.meaning w.policy.now) (g.P.Policy.blocks w.policy.now) (meant w.applet.now) in
    let room = c.requires.room in
    let h = c.put_field.ensures in
    let l = length_field 1 (1 ∷ c.methods.result ∷ []) in
    let e = ap length c.entries.ensures in
    omega arith

pub returns : goal.returns
returns g c =
    let w = c.args.self.now in
    let A = g.P.Policy.meaning w.policy.now in
    let B = g.P.Policy.blocks w.policy.now in
    let a = meant w.applet.now in
    file_put A B a c.args.pen.now c.put_field.new.self c.put_field-2.new.self c.put_starts.new.pen c.put_methods.new.pen c.methods.result c.entries.result.now
    (c.methods.ensures ∙ sym (count A B a)) c.entries.ensures c.requires.room c.put_field.ensures c.put_field-2.ensures c.put_starts.ensures c.put_methods.ensures
