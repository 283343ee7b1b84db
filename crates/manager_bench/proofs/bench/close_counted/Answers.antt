use Rattle.std.proofs.Common.{◌∙◌, ◌++◌, ◌∷◌, [], List, length, ap, arith}
use Rattle.backend_pass.specs.Passes.{PassState}
use Rattle.manager_bench.proofs.Freeing.{all_three}
use Rattle.manager_bench.proofs.bench.close_counted.Goals as goal

pub close_counted-requires-clause-all : goal.close_counted-requires-clause-all
close_counted-requires-clause-all g c =
    let one = c.push_reserved.ensures.items ∙ ap (λ (l : List PassState). l ++ c.args.third ∷ []) c.requires.room.0 in
    let two = c.push_reserved-2.ensures.items ∙ ap (λ (l : List PassState). l ++ c.args.first ∷ []) one in
    let three = c.push_reserved-3.ensures.items ∙ ap (λ (l : List PassState). l ++ c.args.second ∷ []) two in
    all_three {L = g.row.L.Denot} {G = g.row.G.Denot} g.L.BlockLane.contents c.args.manager c.push_reserved-3.new.self.items c.args.first c.args.second c.args.third three c.requires.first c.requires.second c.requires.third

pub close_counted-requires-clause-few : goal.close_counted-requires-clause-few
close_counted-requires-clause-few g c =
    let one = c.push_reserved.ensures.items ∙ ap (λ (l : List PassState). l ++ c.args.third ∷ []) c.requires.room.0 in
    let two = c.push_reserved-2.ensures.items ∙ ap (λ (l : List PassState). l ++ c.args.first ∷ []) one in
    let three = c.push_reserved-3.ensures.items ∙ ap (λ (l : List PassState). l ++ c.args.second ∷ []) two in
    let many = ap length three in
    let long = c.push_reserved-3.new.self.ok.0 in
    omega (arith, many, long)
