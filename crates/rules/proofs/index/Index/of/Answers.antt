use Rattle.std.proofs.Common.{◌≡◌, ◌+◌, ◌-◌, ◌<◌, cond, ◌&&◌, eqb, length, sym, ap, ◌∙◌, ap₂, arith, length-append}
use Rattle.std.specs.List.{flat_map}
use Rattle.model.specs.Moments.{same_moment}
use Rattle.model.specs.Rules.{rule_bytes}
use Rattle.rules.specs.declared.views.RuleViews.{RuleViews}
use Rattle.rules.specs.Index.{span_of, kept_first, met_span, first_place, last_place}
use Rattle.rules.specs.declared.index.Span.{Span}
use Rattle.rules.proofs.Shown.{next_rule, no_rules}
use Rattle.rules.proofs.Indexing.{span_all, cond_from, cond_to, first_none, first_all, first_more}
use Rattle.rules.proofs.index.Index.of.Goals as goal

pub loop-r-init : goal.loop-r-init
loop-r-init c =
    let i = ap (λ (v : RuleViews). v.0.now) c.into_iter-r-iterator.ensures.into_iter_gives in
    let l = ap length i in
    let b = c.requires.inside in
    let end = c.args.end in (
      omega arith,
      λ n rs v. (
        rs,
        (i ∙ v.0, v.1),
        λ k t h.
            let p = end - length c.args.rules.now in
            let s = ap (λ i. span_of i k t) c.all_at-index.ensures ∙ span_all end k t h in (
              ap (λ (z : Span). kept_first end (first_place rs k t p) z.from) s ∙ first_none end (first_place rs k t p),
              ap (λ (z : Span). last_place rs k t p z.to) s,
            ),
      ),
    )

pub loop-r-preserved : goal.loop-r-preserved
loop-r-preserved c =
    let l = c.in-Some.ensures.steps.less.1 in
    let s = c.loop-r.invariant.0 in
    let end = c.args.end in
    let at = c.loop-r.from in
    let g = ap length c.in-Some.ensures.steps.less.0 in
    let to = end - length c.in-Some.r.rest.now in (
      omega arith,
      λ n rs v.
          let i = c.loop-r.invariant.1 n rs v in
          let x = next_rule n _ i.0 c.in-Some.r _ i.1 c.in-Some.ensures.steps in
          let a = ap length (i.1.0 ∙ ap (flat_map rule_bytes) x.all) ∙ length-append (rule_bytes x.first) (flat_map rule_bytes x.more) in
          let b = ap length x.written.0 in
          let p : to ≡ at + length (rule_bytes x.first) = omega arith in
          let near : at < end = omega arith in (
            x.more,
            x.written,
            λ k t h.
                let o = span_of c.loop-r.index k t in
                let r : Span = record { from = at; to = to } in
                let y = first_place x.more k t to in
                let m = eqb x.first.call k && same_moment x.first.moment t in
                let e = c.meet.ensures k t h ∙ ap₂ (λ d u. cond (eqb d k && same_moment u t) (met_span end r o) o) x.call x.moment in
                let j = i.2 k t h in (
                  ap (λ (z : Span). kept_first end y z.from) e ∙ ap (kept_first end y) (cond_from m (met_span end r o) o) ∙ first_more m end at o.from y near
                      ∙ ap (λ g. kept_first end (cond m at (first_place x.more k t g)) o.from) p ∙ sym (ap (λ vs. kept_first end (first_place vs k t at) o.from) x.all) ∙ j.0,
                  ap (λ (z : Span). last_place x.more k t to z.to) e ∙ ap (last_place x.more k t to) (cond_to m (met_span end r o) o)
                      ∙ ap (λ g. last_place x.more k t g (cond m g o.to)) p ∙ sym (ap (λ vs. last_place vs k t at o.to) x.all) ∙ j.1,
                ),
          ),
    )

pub returns : goal.returns
returns c =
    let end = c.args.end in
    record {
      firsts = λ n rs v k t h.
          let i = c.loop-r.invariant.1 n rs v in
          let q = (span_of c.loop-r.index k t).from in
          let z = no_rules n _ i.0 _ i.1 c.in-None.ensures.steps in
          let e = ap length i.1.0 ∙ ap (λ vs. length (flat_map rule_bytes vs)) z in
          let f = c.loop-r.invariant.0 in
          let p : c.loop-r.from ≡ end = omega arith in
          sym (ap₂ (λ vs g. kept_first end (first_place vs k t g) q) z p ∙ first_all end q) ∙ (i.2 k t h).0;
      lasts = λ n rs v k t h.
          let i = c.loop-r.invariant.1 n rs v in
          let q = (span_of c.loop-r.index k t).to in
          let z = no_rules n _ i.0 _ i.1 c.in-None.ensures.steps in
          sym (ap (λ vs. last_place vs k t c.loop-r.from q) z) ∙ (i.2 k t h).1;
    }
