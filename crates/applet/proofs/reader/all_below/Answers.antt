use Rattle.std.proofs.Common.{ltb, tests, rules, ◌∙◌}
use Rattle.std.proofs.lemmas.Iterator.{YieldsList-from_slice}
use Rattle.std.proofs.lemmas.Iterator.Search.{all_from_yields_List}
use Rattle.applet.proofs.Loops.{every_all}
use Rattle.applet.proofs.reader.all_below.Goals as goal

pub returns : goal.returns
returns c =
    all_from_yields_List (λ e. ltb e c.args.n) _ _ c.all.result c.all.ensures.ran (YieldsList-from_slice c.args.bytes.now cc) (λ x b q k. search (rules, tests)) ∙
    every_all (λ e. ltb e c.args.n) c.args.bytes.now
