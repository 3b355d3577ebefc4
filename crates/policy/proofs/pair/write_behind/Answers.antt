use Rattle.std.proofs.Common.{◌++◌, take, ap, ◌∙◌}
use Rattle.std.proofs.lemmas.List.{take_rest}
use Rattle.model.specs.Calls.{block_area}
use Rattle.policy.proofs.Pairs.{put_rest}
use Rattle.policy.proofs.pair.write_behind.Goals as goal

pub returns : goal.returns
returns g c =
    let area = c.args.area.now in
    let at = c.args.at in
    put_rest area c.write_block.new.area at c.requires ∙
    ap (λ z. take at area ++ z) (c.write_block.ensures.area ∙
    ap (block_area (g.P.Policy.meaning c.args.p.now) (g.P.Policy.blocks c.args.p.now) c.args.call c.args.moment c.args.first) (take_rest area at))
