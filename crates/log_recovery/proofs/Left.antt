-- What a beginning of a log's bytes is read as.
use Rattle.std.proofs.Common.{◌≡◌, ℕ, zero, suc, ◌<◌, ◌≤◌, List, [], ◌∷◌, ◌++◌, length, length-append, take, drop, sym, refl, ap, ◌∙◌, subst, ⊎_elim, arith}
use Rattle.std.proofs.lemmas.List.{append_assoc, take_at, drop_at, take-append-le, drop-append-le, take-append-drop, length-drop}
use Rattle.std.proofs.lemmas.Bool.{cases_lt}
use mathlib.Core.Option.{some-ne-none}
use Rattle.block_tag.specs.declared.catalogue.RelEntry.{RelEntry}
use Rattle.block_tag.specs.Catalogue.{IsCatalogue}
use Rattle.history_core.specs.Log.{Change, image, ranges, resize, Entry, AreChained, change_size, record_size, record_bytes, records, end_of, end_from}
use Rattle.history_core.proofs.Logs.{chain_above}
use Rattle.table_rule.specs.Blocks.{log_name}
use Rattle.log_recovery.specs.Records.{HasChange, IsRecord, Reads}
use Rattle.log_recovery.specs.Laws.{IsWritten, without_backends, AreWritten, LeftRead, some_left, one_beyond}
use Rattle.log_recovery.proofs.Prefix.{image_size}
use Rattle.log_recovery.proofs.Same.{same_record}
use Rattle.log_recovery.proofs.Back.{record_read, size_of, bytes_long}

module _ (relations : List RelEntry) (catalogue : IsCatalogue relations) where
  has_image : (bytes : List ℕ) (c : Change) → HasChange relations bytes c → (word : ℕ) × (page : List ℕ) × (c ≡ image word page)
  has_image bytes (image word page) has = (word, page, refl)
  has_image bytes (ranges word spans) has = absurd has
  has_image bytes (resize fork old new) has = absurd has

  -- a beginning that is long enough begins with the first record
  pub begins : (a c body lost : List ℕ) → body ++ lost ≡ a ++ c → length a ≤ length body → body ≡ a ++ drop (length a) body
  begins a c body lost is long = sym (take-append-drop (length a) body) ∙ ap (λ (l : List ℕ). l ++ drop (length a) body) (sym (take-append-le (length a) body lost long) ∙ ap (take (length a)) is ∙ take_at a c (length a) refl)

  pub goes_on : (a c body lost : List ℕ) → body ++ lost ≡ a ++ c → length a ≤ length body → drop (length a) body ++ lost ≡ c
  goes_on a c body lost is long = sym (drop-append-le (length a) body lost long) ∙ ap (drop (length a)) is ∙ drop_at a c (length a) refl

  module _ (rest lost : List ℕ) (short : length rest ≤ record_size) where
    pub left_read : (from : ℕ) (before es : List Entry) (body : List ℕ) (ds : List Entry) → AreChained from es → AreWritten relations es
        → body ++ lost ≡ records (log_name relations) es ++ rest → Reads relations from before body ds → LeftRead from es rest (length body) ds
    unfolding Reads records without_backends AreChained end_from
    left_read from before [] body [] chained written is reads = some_left [] [] refl refl (λ k e at. absurd (some-ne-none e (sym at)))
    left_read from before [] body (d ∷ []) chained written is reads = let r = reads.0 in let size = image_size relations body d.change r.change in let whole = r.whole in
        let sum = length-append body lost in let same = ap (λ (l : List ℕ). length l) is in
        let shown = has_image body d.change r.change in
        one_beyond d shown.0 shown.1 shown.2 (ap (λ (n : ℕ). record d { backend = n } ∷ []) r.backend) r.starts r.valid (omega (arith, size, whole, sum, same, short))
    left_read from before [] body (d ∷ f ∷ fs) chained written is reads = let r = reads.0 in let q = reads.1.0 in let size = image_size relations body d.change r.change in let size' = image_size relations (drop (change_size d.change) body) f.change q.change in
        let sum = length-append body lost in let same = ap (λ (l : List ℕ). length l) is in let less = length-drop (change_size d.change) body in let whole = r.whole in let whole' = q.whole in
        absurd (omega (arith, size, size', sum, same, less, whole, whole', short))
    left_read from before (e ∷ es) body [] chained written is reads = ⊎_elim
        (λ (low : length body < record_size). some_left [] (e ∷ es) refl refl (λ k x at. let above = chain_above from (e ∷ es) chained k x at in let size = size_of relations x (written k x at) in omega (arith, above, size, low)))
        (λ (ge : record_size ≤ length body). let w = written zero e refl in let a = record_bytes (log_name relations) e in let long = bytes_long relations e w in
        let split : body ++ lost ≡ a ++ (records (log_name relations) es ++ rest) = is ∙ append_assoc a (records (log_name relations) es) rest in
        absurd (reads (record e { backend = 0 }) (subst (λ (n : ℕ). IsRecord relations n before body (record e { backend = 0 })) chained.0
        (subst (λ (l : List ℕ). IsRecord relations e.start before l (record e { backend = 0 })) (sym (begins a (records (log_name relations) es ++ rest) body lost split (omega (arith, long, ge)))) (record_read relations before e w (drop (length a) body))))))
        (cases_lt (length body) record_size)
    left_read from before (e ∷ es) body (d ∷ ds) chained written is reads = goes (left_read (end_of e) (before ++ d ∷ []) es (drop (length a) body) ds chained.1 (λ k x at. written (suc k) x at) (goes_on a tail body lost split fits)
        (subst (λ (n : ℕ). Reads relations (end_of e) (before ++ d ∷ []) (drop n body) ds) (size ∙ sym long) (subst (λ (n : ℕ). Reads relations n (before ++ d ∷ []) (drop (change_size d.change) body) ds) same_end reads.1)))
      where
        w : IsWritten relations e
        w = written zero e refl

        a : List ℕ
        a = record_bytes (log_name relations) e

        tail : List ℕ
        tail = records (log_name relations) es ++ rest

        split : body ++ lost ≡ a ++ tail
        split = is ∙ append_assoc a (records (log_name relations) es) rest

        long : length a ≡ record_size
        long = bytes_long relations e w

        size : change_size d.change ≡ record_size
        size = image_size relations body d.change reads.0.change

        fits : length a ≤ length body
        fits = let whole = reads.0.whole in omega (arith, size, long, whole)

        same : d ≡ record e { backend = 0 }
        same = same_record relations catalogue from before body d (record e { backend = 0 }) reads.0 (subst (λ (n : ℕ). IsRecord relations n before body (record e { backend = 0 })) chained.0
            (subst (λ (l : List ℕ). IsRecord relations e.start before l (record e { backend = 0 })) (sym (begins a tail body lost split fits)) (record_read relations before e w (drop (length a) body))))

        same_end : end_of d ≡ end_of e
        same_end = ap end_of same

        goes : LeftRead (end_of e) es rest (length (drop (length a) body)) ds → LeftRead from (e ∷ es) rest (length body) (d ∷ ds)
        goes (some_left kept later all read high) = some_left (e ∷ kept) later (ap (λ (l : List Entry). e ∷ l) all) (ap (λ (x : Entry). x ∷ ds) same ∙ ap (λ (l : List Entry). record e { backend = 0 } ∷ l) read)
            (λ k x at. let far = high k x at in let less = length-drop (length a) body in let starts : e.start ≡ from = chained.0 in let full = size_of relations e w in omega (arith, far, less, starts, long, full, fits))
        goes (one_beyond x word page image_is read starts valid whole) = one_beyond x word page image_is (ap (λ (y : Entry). y ∷ ds) same ∙ ap (λ (l : List Entry). record e { backend = 0 } ∷ l) read) starts valid whole
