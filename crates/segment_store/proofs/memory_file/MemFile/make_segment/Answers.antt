use Rattle.std.proofs.Common.{◌≡◌, ◌<◌, ◌++◌, ◌∷◌, [], Bool, Some, true, cond, length, sym, ◌∙◌, ap, arith, vec_capacity, vec_len}
use Rattle.std.specs.Prelude.{is_ok}
use Rattle.std.proofs.lemmas.List.{length-map, nil_from_length}
use Rattle.std.proofs.lemmas.List.Elements.{All-pop}
use Rattle.segment_store.specs.MemoryHost.{bytes_of}
use Rattle.segment_store.proofs.Space.{bytes_pushed, pushed_here}
use Rattle.segment_store.proofs.memory_file.MemFile.make_segment.Goals as goal

pub returns-in-Some-clause-at : goal.returns-in-Some-clause-at
returns-in-Some-clause-at c =
    let file = c.args.self.now in
    let segment = c.in-Some.segment in
    let old = file.segments.items in
    let now = c.push-added.new.self.items in
    let none : vec_len segment ≡ 0 =
    (All-pop (λ s. vec_len s ≡ 0) file.spare.items c.pop.new.self.items (Some segment) c.in-Some.ensures.items file.spare_empty).1 in
    let empty : segment.items ≡ [] = nil_from_length segment.items (sym segment.ok.0 ∙ none) in
    let held : vec_len file.segments < vec_capacity file.segments = omega (arith, file.held, c.in-Some.ensures.len) in
    let ok : is_ok c.push-added.result ≡ true = c.push-added.ensures.succeeds held in
    let pushed = c.push-added.ensures.items ∙ ap (λ (b : Bool). cond b (old ++ segment ∷ []) old) ok in
    let size : length (bytes_of old) ≡ c.args.index = length-map old _ ∙ sym file.segments.ok.0 ∙ omega (arith, c.len.ensures) in
    pushed_here (bytes_of old) (bytes_of now) c.args.index (bytes_pushed old now segment pushed empty) size
