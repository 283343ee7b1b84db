use Rattle.std.proofs.Common.{◌≡◌, ◌+◌, ◌-◌, ◌*◌, ◌<◌, ◌≤◌, ◌++◌, Bool, List, ℕ, true, cond, length, drop, replicate, take, sym, ◌∙◌, ap, arith}
use Rattle.std.specs.Prelude.{is_ok}
use Rattle.std.proofs.lemmas.List.{with_items_is}
use Rattle.segment_store.proofs.Growing.{filled_up, zeroed}
use Rattle.segment_store.proofs.growth.put_new_page.Goals as goal

pub returns-then-len-end-clause-bytes : goal.returns-then-len-end-clause-bytes
returns-then-len-end-clause-bytes c =
    let segment = c.args.segment.now in
    let place = c.args.place in
    let cut = c.truncate.new.self in
    let size : length cut.items ≡ cut.len = sym cut.ok.0 in
    let ok : is_ok c.resize-filled.result ≡ true = c.resize-filled.ensures.succeeds (omega arith) in
    let short : length segment.items < 8192 * place + 8192 = omega (arith, segment.ok.0) in
    let now_is = c.resize-filled.ensures.items
    ∙ ap (λ (b : Bool). cond b (take (8192 * place + 8192) cut.items ++ replicate (8192 * place + 8192 - cut.len) 0) cut.items) ok
    ∙ ap (λ (n : ℕ). take (8192 * place + 8192) cut.items ++ replicate (8192 * place + 8192 - n) 0) (sym size) in
    filled_up place segment.items cut.items c.resize-filled.new.self.items short c.truncate.ensures.items now_is

pub returns-clause-bytes : goal.returns-clause-bytes
returns-clause-bytes c =
    let segment = c.args.segment.now in
    let within : 8192 * c.args.place + 8192 ≤ length segment.items = omega (arith, segment.ok.0) in
    let zeros = λ (bytes : List ℕ). take (8192 * c.args.place) bytes ++ (replicate 8192 0 ++ drop (8192 * c.args.place + 8192) bytes) in
    with_items_is segment c.put_zeros.new.bytes (c.put_zeros.auto.bytes ∙ c.as_mut_slice.ensures.len)
    ∙ zeroed c.args.place segment.items c.put_zeros.new.bytes within
    (c.put_zeros.ensures ∙ ap zeros c.as_mut_slice.ensures.value)
