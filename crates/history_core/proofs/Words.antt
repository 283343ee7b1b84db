-- The words of the table that no frame and no latch has: which are one, and what each has after one is set.
use Rattle.std.proofs.Common.{◌≡◌, ℕ, Bool, true, false, cond, sym, refl, ap}
use Rattle.pin_core.specs.declared.view.View.{View}
use Rattle.pin_core.specs.State.{link}
use Rattle.history_core.specs.State.{State}
use Rattle.history_core.specs.Words.{Word, end_word, flushed_word, is_word, word_of, WordKind, load_end, begin_checkpoint, word_at, number_after, word_set}
use Rattle.history_core.specs.Steps.{unmarked, view_after_word, state_set}
use Rattle.history_core.proofs.Beginning.{link_begun}

-- in a state where one was set: the log's end is the one that such a state leaves
pub is_set : (at : Word) (number : ℕ) (s : State) (i : ℕ) (w : View) → (is_word end_word at ≡ true → number ≡ s.end) → (x : Word) → word_of x (state_set at number s i w) ≡ word_set at number s x
is_set at number s i w ends end_word = by_end (is_word end_word at) ends
  where
    by_end : (b : Bool) → (b ≡ true → number ≡ s.end) → s.end ≡ cond b number s.end
    by_end true e = sym (e refl)
    by_end false e = refl
is_set at number s i w ends flushed_word = refl
is_set at number s i w ends _ = refl

-- no kind changes the log's end
pub end_stays : (k : WordKind) (s : State) → is_word end_word (word_at k) ≡ true → number_after k s ≡ s.end
end_stays load_end s e = refl
end_stays begin_checkpoint s e = refl
end_stays _ s e = absurd (cc)

-- no kind changes more of what the view has at a frame than a checkpoint's two notes
pub link_left : (k : WordKind) (found end : ℕ) (v : View) (f : ℕ) → unmarked (link (view_after_word k found end v) f) ≡ unmarked (link v f)
link_left begin_checkpoint found end v f = ap unmarked (link_begun v (view_after_word begin_checkpoint found end v) (record { emptied = refl; number = refl; next = refl; joined = refl; links = refl; partitions = refl; sizes = refl }) f)
link_left _ found end v f = refl
