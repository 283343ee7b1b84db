-- Where the words lie: those of the frames, then those of the latches, and then the others, each at a place of its own.
use Rattle.std.proofs.Common.{◌≡◌, ◌≢◌, ◌⊎◌, ℕ, ◌+◌, ◌*◌, ◌<◌, ◌≤◌, Bool, true, false, cond, List, get_or, set, length, get_or-set_same, get_or-set_other, sym, refl, ap, ◌∙◌, inl, inr, ⊎_elim, eq-eqb, ne_eqb, arith}
use mathlib.Core.Logic.{dite}
use native.Mathlib.Decide.{ℕ_discrete}
use Rattle.history_core.specs.State.{State}
use Rattle.history_core.specs.Words.{Word, end_word, flushed_word, redo_word, hand_word, counter_word, hint_word, is_word, word_of, word_set}
use Rattle.table_rule.specs.declared.turn.Turn.{Turn}
use Rattle.table_rule.specs.declared.turn.Turn.TheVariants as turn
use Rattle.table_rule.specs.Layout.{latch_place, first_word, word_place, word_count, HasWord}
use Rattle.table_rule.specs.Shows.{HasTurn}

pub latch_low : (n lanes : ℕ) (x : Turn) → lanes ≤ 16 → HasTurn lanes x → (8 * n ≤ latch_place n x) × (latch_place n x < first_word n)
latch_low n lanes (turn.Partition p) few has = (omega arith, omega arith)
latch_low n lanes (turn.Lane q) few has = (omega arith, omega arith)
latch_low n lanes turn.Log few has = (omega arith, omega arith)

pub word_behind : (n : ℕ) (w : Word) → first_word n ≤ word_place n w
word_behind n end_word = omega arith
word_behind n _ = omega arith

pub word_within : (n : ℕ) (w : Word) → HasWord n w → word_place n w < word_count n
word_within n end_word has = omega arith
word_within n _ has = omega arith

-- two words are one, or lie apart
pub one_or_apart : (n : ℕ) (a b : Word) → HasWord n a → HasWord n b → ((is_word a b ≡ true) × (word_place n a ≡ word_place n b)) ⊎ ((is_word a b ≡ false) × (word_place n a ≢ word_place n b))
one_or_apart n end_word end_word has also = inl (refl, refl)
one_or_apart n flushed_word flushed_word has also = inl (refl, refl)
one_or_apart n hand_word hand_word has also = inl (refl, refl)
one_or_apart n redo_word redo_word has also = inl (refl, refl)
one_or_apart n (counter_word a) (counter_word b) has also = dite (ℕ_discrete a b)
    (λ e. inl (eq-eqb a b e, ap (λ (k : ℕ). 8 * n + 149 + k) e))
    (λ o. inr (ne_eqb a b o, λ e. o (omega arith)))
one_or_apart n (hint_word a) (hint_word b) has also = dite (ℕ_discrete a b)
    (λ e. inl (eq-eqb a b e, ap (λ (k : ℕ). 8 * n + 169 + k) e))
    (λ o. inr (ne_eqb a b o, λ e. o (omega arith)))
one_or_apart n _ _ has also = inr (refl, λ e. omega arith)

-- a latch's word is none of these
pub latch_apart : (n lanes : ℕ) (x : Turn) (w : Word) → lanes ≤ 16 → HasTurn lanes x → latch_place n x ≢ word_place n w
latch_apart n lanes x w few has e = let low = latch_low n lanes x few has in let behind = word_behind n w in omega arith

-- what the words say where one is set
pub said : (n : ℕ) (words : List ℕ) (at : Word) (number : ℕ) (s : State) → HasWord n at → word_count n ≤ length words → ((w : Word) → HasWord n w → get_or words (word_place n w) 0 ≡ word_of w s) → (w : Word) → HasWord n w
    → get_or (set words (word_place n at) number) (word_place n w) 0 ≡ word_set at number s w
said n words at number s has wide says w here = ⊎_elim
    (λ (y : (is_word w at ≡ true) × (word_place n w ≡ word_place n at)). ap (λ (i : ℕ). get_or (set words (word_place n at) number) i 0) y.1 ∙ get_or-set_same words (word_place n at) number 0 (let low = word_within n at has in omega arith) ∙ ap (λ (b : Bool). cond b number (word_of w s)) (sym y.0))
    (λ (y : (is_word w at ≡ false) × (word_place n w ≢ word_place n at)). get_or-set_other words (word_place n at) (word_place n w) number 0 y.1 ∙ says w here ∙ ap (λ (b : Bool). cond b number (word_of w s)) (sym y.0))
    (one_or_apart n w at here has)
