use Rattle.std.proofs.Common.{◌∙◌, ◌<◌, length, refl, set, subst, sym, arith}
use Rattle.std.proofs.lemmas.List.{length-set}
use Rattle.table_rule.specs.Shows.{devices}
use Rattle.backend_pass.specs.Passes.{PassState}
use Rattle.backend_pass.specs.Between.{IsIdlePass, Returns}
use Rattle.backend_pass.proofs.Between.{all_returned, new_idle_each, same_read}
use Rattle.library_example.specs.Passes.{ClosesReturned, NotesNone}
use Rattle.library_example.proofs.Returning.{one_back, redoes_all, set_each}
use Rattle.library_example.proofs.backends.work_alone_and_close.Goals as goal

pub work-done-requires : goal.work-done-requires
work-done-requires g c =
    let ct = g.L.BlockLane.contents in
    let m = c.args.manager in
    let ps = c.args.passes.items in
    let counted = c.requires.counted in
    let low : 0 < length ps = omega arith in
    subst (IsIdlePass ct m) (sym c.index_mut.ensures.value)
    (new_idle_each ct m _ ps c.requires 0 c.index_mut.result.now low)

pub close-given-requires : goal.close-given-requires
close-given-requires g c =
    let ct = g.L.BlockLane.contents in
    let m = c.args.manager in
    let ps = c.args.passes.items in
    let first = c.index_mut.result.now in
    let z = c.work-done.new.pass in
    let counted = c.requires.counted in
    let low : 0 < length ps = omega arith in
    all_returned ct m _ ps (set ps 0 z) (omega arith) c.requires (length-set ps 0 z)
    (one_back ct m _ ps 0 z c.requires
    (λ d. subst (λ (p : PassState). Returns ct m p z)
    (c.index_mut.ensures.value ∙ same_read ps 0 first d low) c.work-done.ensures.back))

pub returns : goal.returns
returns g c =
    let ct = g.L.BlockLane.contents in
    let m = c.args.manager in
    let ps = c.args.passes.items in
    let first = c.index_mut.result.now in
    let z = c.work-done.new.pass in
    let counted = c.requires.counted in
    let low : 0 < length ps = omega arith in
    let d = devices g.L.BlockLane g.G.LogDevice in
    let back : ClosesReturned d m ps (set ps 0 z) c.close-given.result.0.items c.close-given.result.1 = record {
      counted = length-set ps 0 z;
      back = one_back ct m _ ps 0 z c.requires
          (λ e. subst (λ (p : PassState). Returns ct m p z)
          (c.index_mut.ensures.value ∙ same_read ps 0 first e low) c.work-done.ensures.back);
      closed = c.close-given.ensures;
    } in (
      set ps 0 z,
      back,
      redoes_all d m _ ps (set ps 0 z) _ _ c.requires back
          (set_each NotesNone ps ps 0 z low (λ i e below. refl)
          (λ e. subst (λ (p : PassState). NotesNone p z)
          (c.index_mut.ensures.value ∙ same_read ps 0 first e low) c.in_ok-done.ensures.unentered)),
    )
