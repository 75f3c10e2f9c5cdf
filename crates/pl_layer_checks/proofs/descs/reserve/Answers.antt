use Rattle.std.proofs.Common.{◌≡◌, [], ◌∙◌, ap, arith}
use Rattle.pl_desc.specs.Descs.{live_count}
use Rattle.pl_layer_checks.proofs.Starting.{none_live}
use Rattle.pl_layer_checks.proofs.descs.reserve.Goals as goal

pub open_reserved-reader-requires-clause-few : goal.open_reserved-reader-requires-clause-few
open_reserved-reader-requires-clause-few g c =
    let opened : c.reserve-2.new.self.opened ≡ [] = ap (λ d. d.opened) c.reserve-2.ensures.kept ∙ ap (λ d. d.opened) c.reserve.ensures.kept ∙ ap (λ d. d.opened) c.requires in
    let limit : c.reserve-2.new.self.limits.descriptions ≡ 4096 = ap (λ d. d.limits.descriptions) c.reserve-2.ensures.kept ∙ ap (λ d. d.limits.descriptions) c.reserve.ensures.kept ∙ ap (λ d. d.limits.descriptions) c.requires in
    omega (arith, ap live_count opened ∙ none_live, limit)

pub open_reserved-writer-requires-clause-few : goal.open_reserved-writer-requires-clause-few
open_reserved-writer-requires-clause-few g c =
    let opened : c.reserve-2.new.self.opened ≡ [] = ap (λ d. d.opened) c.reserve-2.ensures.kept ∙ ap (λ d. d.opened) c.reserve.ensures.kept ∙ ap (λ d. d.opened) c.requires in
    let limit : c.open_reserved-reader.new.self.limits.descriptions ≡ 4096 =
    ap (λ d. d.limits.descriptions) c.open_reserved-reader.ensures.rest ∙ ap (λ d. d.limits.descriptions) c.reserve-2.ensures.kept ∙ ap (λ d. d.limits.descriptions) c.reserve.ensures.kept ∙ ap (λ d. d.limits.descriptions) c.requires in
    omega (arith, c.open_reserved-reader.ensures.live, ap live_count opened ∙ none_live, limit)
