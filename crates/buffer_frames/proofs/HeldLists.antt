-- Lists of pins, and what they show.
use Rattle.std.proofs.Common.{◌≡◌, ◌≢◌, ℕ, zero, suc, add-one, ◌+◌, ◌-◌, ◌<◌, ◌≤◌, List, [], ◌∷◌, ◌++◌, Option, Some, None, true, false, cond, eq-eqb, ne_eqb, nat_eq, ◌&&◌, take, drop, set, length, get_or, refl, sym, ap, ◌∙◌, subst, arith}
use Rattle.std.specs.Prelude.{option_map}
use Rattle.std.proofs.lemmas.Option.{none-some, same_Some}
use mathlib.Core.Logic.{dite}
use native.Mathlib.Decide.{ℕ_discrete}
use denote.Enum.Bare.{sameb}
use Rattle.block_tag.specs.contracts.tag.Fork.{the_type}
use Rattle.block_tag.specs.declared.tag.Fork.{Fork}
use Rattle.block_tag.specs.declared.tag.Fork.TheVariants.{Main, Fsm, Vm, Init}
use Rattle.block_tag.specs.declared.tag.Tag.{Tag}
use Rattle.block_tag.specs.Names.{names_block, packed_tag, unpacked_tag}
use Rattle.table_rule.proofs.Tags.{packed_is}
use Rattle.buffer_frames.specs.declared.pins.HeldPin.{HeldPin}
use Rattle.buffer_frames.specs.Tokens.{TokensAreCounted, AreOfBlocks, AreOfOthers, HeldFrame, IsPinnedFor, IsOf, StandsAt, Tokens, count_of, held_at, held_in, held_of, tokens_less, tokens_more, tokens_of}

-- the first frame, and those past it
pub held_here : (h : HeldFrame) (t : Tokens) (f : ℕ) → f ≡ h.frame → held_at (h ∷ t) f ≡ Some h
held_here h t f e = ap (λ b. cond b (Some h) (held_at t f)) (eq-eqb f h.frame e)

pub held_past : (h : HeldFrame) (t : Tokens) (f : ℕ) → f ≢ h.frame → held_at (h ∷ t) f ≡ held_at t f
held_past h t f n = ap (λ b. cond b (Some h) (held_at t f)) (ne_eqb f h.frame n)

pub none_past : (h : HeldFrame) (t : Tokens) (f : ℕ) → held_at (h ∷ t) f ≡ None → f ≢ h.frame
none_past h t f none e = none-some h (sym none ∙ held_here h t f e)

pub none_rest : (h : HeldFrame) (t : Tokens) (f : ℕ) → held_at (h ∷ t) f ≡ None → held_at t f ≡ None
none_rest h t f none = sym (held_past h t f (none_past h t f none)) ∙ none

-- a frame more at the end
pub with_here : (t : Tokens) (h : HeldFrame) (f : ℕ) → f ≡ h.frame → held_at t f ≡ None → held_at (t ++ h ∷ []) f ≡ Some h
with_here [] h f e none = held_here h [] f e
with_here (x ∷ xs) h f e none = held_past x (xs ++ h ∷ []) f (none_past x xs f none) ∙ with_here xs h f e (none_rest x xs f none)

pub with_past : (t : Tokens) (h : HeldFrame) (f : ℕ) → f ≢ h.frame → held_at (t ++ h ∷ []) f ≡ held_at t f
with_past [] h f n = held_past h [] f n
with_past (x ∷ xs) h f n = dite (ℕ_discrete f x.frame)
    (λ e. held_here x (xs ++ h ∷ []) f e ∙ sym (held_here x xs f e))
    (λ o. held_past x (xs ++ h ∷ []) f o ∙ with_past xs h f n ∙ sym (held_past x xs f o))

pub count-with : (t : Tokens) (h : HeldFrame) → count_of (t ++ h ∷ []) ≡ count_of t + h.tokens
count-with [] h = omega arith
count-with (x ∷ xs) h = let e = count-with xs h in omega arith

pub counted_with : (t : Tokens) (h : HeldFrame) → TokensAreCounted t → 0 < h.tokens → held_at t h.frame ≡ None → TokensAreCounted (t ++ h ∷ [])
counted_with [] h c some none = (some, refl, tt)
counted_with (x ∷ xs) h c some none = (c.0, with_past xs h x.frame (λ e. none_past x xs h.frame none (sym e)) ∙ c.1, counted_with xs h c.2 some (none_rest x xs h.frame none))

-- a token more
more_here : (h : HeldFrame) (t : Tokens) (f : ℕ) → f ≡ h.frame → tokens_more f (h ∷ t) ≡ record h { tokens = h.tokens + 1 } ∷ t
more_here h t f e = ap (λ b. cond b (record h { tokens = h.tokens + 1 } ∷ t) (h ∷ tokens_more f t)) (eq-eqb f h.frame e)

more_past : (h : HeldFrame) (t : Tokens) (f : ℕ) → f ≢ h.frame → tokens_more f (h ∷ t) ≡ h ∷ tokens_more f t
more_past h t f n = ap (λ b. cond b (record h { tokens = h.tokens + 1 } ∷ t) (h ∷ tokens_more f t)) (ne_eqb f h.frame n)

-- the frames and tags stay
pub more_tags : (t : Tokens) (f g : ℕ) → option_map HeldFrame.tag (held_at (tokens_more f t) g) ≡ option_map HeldFrame.tag (held_at t g)
more_tags [] f g = refl
more_tags (h ∷ hs) f g = dite (ℕ_discrete f h.frame)
    (λ e. ap (λ (t : Tokens). option_map HeldFrame.tag (held_at t g)) (more_here h hs f e) ∙ dite (ℕ_discrete g h.frame)
    (λ d. ap (option_map HeldFrame.tag) (held_here (record h { tokens = h.tokens + 1 }) hs g d) ∙ sym (ap (option_map HeldFrame.tag) (held_here h hs g d)))
    (λ o. ap (option_map HeldFrame.tag) (held_past (record h { tokens = h.tokens + 1 }) hs g o) ∙ sym (ap (option_map HeldFrame.tag) (held_past h hs g o))))
    (λ n. ap (λ (t : Tokens). option_map HeldFrame.tag (held_at t g)) (more_past h hs f n) ∙ dite (ℕ_discrete g h.frame)
    (λ d. ap (option_map HeldFrame.tag) (held_here h (tokens_more f hs) g d) ∙ sym (ap (option_map HeldFrame.tag) (held_here h hs g d)))
    (λ o. ap (option_map HeldFrame.tag) (held_past h (tokens_more f hs) g o) ∙ more_tags hs f g ∙ sym (ap (option_map HeldFrame.tag) (held_past h hs g o))))

pub none_of : (o : Option HeldFrame) → option_map HeldFrame.tag o ≡ None → o ≡ None
none_of None e = refl
none_of (Some h) e = absurd (none-some h.tag (sym e))

pub none_alike : (o p : Option HeldFrame) → option_map HeldFrame.tag p ≡ option_map HeldFrame.tag o → o ≡ None → p ≡ None
none_alike o p same e = none_of p (same ∙ ap (option_map HeldFrame.tag) e)

pub counted_more : (t : Tokens) (f : ℕ) → TokensAreCounted t → TokensAreCounted (tokens_more f t)
counted_more [] f c = tt
counted_more (h ∷ hs) f c = dite (ℕ_discrete f h.frame)
    (λ e. subst TokensAreCounted (sym (more_here h hs f e)) (omega arith, c.1, c.2))
    (λ n. subst TokensAreCounted (sym (more_past h hs f n)) (c.0, none_alike (held_at hs h.frame) (held_at (tokens_more f hs) h.frame) (more_tags hs f h.frame) c.1, counted_more hs f c.2))

pub count-more : (t : Tokens) (f : ℕ) → held_at t f ≢ None → count_of (tokens_more f t) ≡ count_of t + 1
count-more [] f some = absurd (some refl)
count-more (h ∷ hs) f some = dite (ℕ_discrete f h.frame)
    (λ e. let a = ap count_of (more_here h hs f e) in omega arith)
    (λ n. let a = ap count_of (more_past h hs f n) in let b = count-more hs f (λ none. some (held_past h hs f n ∙ none)) in omega arith)

-- a token less
less_last : (h : HeldFrame) (t : Tokens) (f : ℕ) → f ≡ h.frame → h.tokens ≡ 1 → tokens_less f (h ∷ t) ≡ t
less_last h t f e one = ap (λ b. cond b (cond (nat_eq h.tokens 1) t (record h { tokens = h.tokens - 1 } ∷ t)) (h ∷ tokens_less f t)) (eq-eqb f h.frame e)
    ∙ ap (λ b. cond b t (record h { tokens = h.tokens - 1 } ∷ t)) (eq-eqb h.tokens 1 one)

less_here : (h : HeldFrame) (t : Tokens) (f : ℕ) → f ≡ h.frame → h.tokens ≢ 1 → tokens_less f (h ∷ t) ≡ record h { tokens = h.tokens - 1 } ∷ t
less_here h t f e more = ap (λ b. cond b (cond (nat_eq h.tokens 1) t (record h { tokens = h.tokens - 1 } ∷ t)) (h ∷ tokens_less f t)) (eq-eqb f h.frame e)
    ∙ ap (λ b. cond b t (record h { tokens = h.tokens - 1 } ∷ t)) (ne_eqb h.tokens 1 more)

less_past : (h : HeldFrame) (t : Tokens) (f : ℕ) → f ≢ h.frame → tokens_less f (h ∷ t) ≡ h ∷ tokens_less f t
less_past h t f n = ap (λ b. cond b (cond (nat_eq h.tokens 1) t (record h { tokens = h.tokens - 1 } ∷ t)) (h ∷ tokens_less f t)) (ne_eqb f h.frame n)

-- at other frames all stays
pub less_others : (t : Tokens) (f g : ℕ) → g ≢ f → held_at (tokens_less f t) g ≡ held_at t g
less_others [] f g n = refl
less_others (h ∷ hs) f g n = dite (ℕ_discrete f h.frame)
    (λ e. let past : g ≢ h.frame = λ d. n (d ∙ sym e) in dite (ℕ_discrete h.tokens 1)
    (λ one. ap (λ (t : Tokens). held_at t g) (less_last h hs f e one) ∙ sym (held_past h hs g past))
    (λ more. ap (λ (t : Tokens). held_at t g) (less_here h hs f e more) ∙ held_past (record h { tokens = h.tokens - 1 }) hs g past ∙ sym (held_past h hs g past)))
    (λ o. ap (λ (t : Tokens). held_at t g) (less_past h hs f o) ∙ dite (ℕ_discrete g h.frame)
    (λ d. held_here h (tokens_less f hs) g d ∙ sym (held_here h hs g d))
    (λ p. held_past h (tokens_less f hs) g p ∙ less_others hs f g n ∙ sym (held_past h hs g p)))

-- the last token of a frame, and one of several
pub less_none : (t : Tokens) (f : ℕ) → TokensAreCounted t → tokens_of (held_at t f) ≡ 1 → held_at (tokens_less f t) f ≡ None
less_none [] f c one = refl
less_none (h ∷ hs) f c one = dite (ℕ_discrete f h.frame)
    (λ e. ap (λ (t : Tokens). held_at t f) (less_last h hs f e (sym (ap tokens_of (held_here h hs f e)) ∙ one)) ∙ ap (held_at hs) e ∙ c.1)
    (λ n. ap (λ (t : Tokens). held_at t f) (less_past h hs f n) ∙ held_past h (tokens_less f hs) f n ∙ less_none hs f c.2 (sym (ap tokens_of (held_past h hs f n)) ∙ one))

pub less_tag : (t : Tokens) (f : ℕ) → tokens_of (held_at t f) ≢ 1 → option_map HeldFrame.tag (held_at (tokens_less f t) f) ≡ option_map HeldFrame.tag (held_at t f)
less_tag [] f more = refl
less_tag (h ∷ hs) f more = dite (ℕ_discrete f h.frame)
    (λ e. ap (λ (t : Tokens). option_map HeldFrame.tag (held_at t f)) (less_here h hs f e (λ one. more (ap tokens_of (held_here h hs f e) ∙ one)))
    ∙ ap (option_map HeldFrame.tag) (held_here (record h { tokens = h.tokens - 1 }) hs f e) ∙ sym (ap (option_map HeldFrame.tag) (held_here h hs f e)))
    (λ n. ap (λ (t : Tokens). option_map HeldFrame.tag (held_at t f)) (less_past h hs f n) ∙ ap (option_map HeldFrame.tag) (held_past h (tokens_less f hs) f n)
    ∙ less_tag hs f (λ one. more (ap tokens_of (held_past h hs f n) ∙ one)) ∙ sym (ap (option_map HeldFrame.tag) (held_past h hs f n)))

pub counted_less : (t : Tokens) (f : ℕ) → TokensAreCounted t → TokensAreCounted (tokens_less f t)
counted_less [] f c = tt
counted_less (h ∷ hs) f c = dite (ℕ_discrete f h.frame)
    (λ e. dite (ℕ_discrete h.tokens 1)
    (λ one. subst TokensAreCounted (sym (less_last h hs f e one)) c.2)
    (λ more. let some = c.0 in subst TokensAreCounted (sym (less_here h hs f e more)) (omega arith, c.1, c.2)))
    (λ n. subst TokensAreCounted (sym (less_past h hs f n)) (c.0, less_others hs f h.frame (λ d. n (sym d)) ∙ c.1, counted_less hs f c.2))

pub count-less : (t : Tokens) (f : ℕ) → TokensAreCounted t → held_at t f ≢ None → count_of (tokens_less f t) + 1 ≡ count_of t
count-less [] f c some = absurd (some refl)
count-less (h ∷ hs) f c some = let tokens = c.0 in dite (ℕ_discrete f h.frame)
    (λ e. dite (ℕ_discrete h.tokens 1)
    (λ one. let a = ap count_of (less_last h hs f e one) in omega arith)
    (λ more. let a = ap count_of (less_here h hs f e more) in omega arith))
    (λ n. let a = ap count_of (less_past h hs f n) in let b = count-less hs f c.2 (λ none. some (held_past h hs f n ∙ none)) in omega arith)

-- how many tokens there are at most, and at least
pub tokens_le : (t : Tokens) (f : ℕ) → tokens_of (held_at t f) ≤ count_of t
tokens_le [] f = omega arith
tokens_le (h ∷ hs) f = dite (ℕ_discrete f h.frame)
    (λ e. let a = ap tokens_of (held_here h hs f e) in omega arith)
    (λ n. let a = ap tokens_of (held_past h hs f n) in let b = tokens_le hs f in omega arith)

-- the pin at a place
stands_first : (f : ℕ) (x : HeldPin) (xs : List HeldPin) → StandsAt f 0 (x ∷ xs) → f ≡ x.pin.frame
stands_first f x xs s = sym (s.here x refl)

stands_past : (f i : ℕ) (x : HeldPin) (xs : List HeldPin) → StandsAt f (suc i) (x ∷ xs) → f ≢ x.pin.frame
stands_past f i x xs s = none_past (held_of x) (held_in (take i xs)) f s.before

stands_later : (f i : ℕ) (x : HeldPin) (xs : List HeldPin) → StandsAt f (suc i) (x ∷ xs) → StandsAt f i xs
stands_later f i x xs s = let inside = s.inside in record { inside = omega arith; before = none_rest (held_of x) (held_in (take i xs)) f s.before; here = λ h e. s.here h e }

pub held_standing : (hs : List HeldPin) (f i : ℕ) (h : HeldPin) → StandsAt f i hs → h ≡ get_or hs i h → held_at (held_in hs) f ≡ Some (held_of h)
held_standing [] f i h s e = let inside = s.inside in absurd (omega arith)
held_standing (x ∷ xs) f zero h s e = held_here (held_of x) (held_in xs) f (stands_first f x xs s) ∙ ap (λ (y : HeldPin). Some (held_of y)) (sym e)
held_standing (x ∷ xs) f (suc i) h s e = held_past (held_of x) (held_in xs) f (stands_past f i x xs s) ∙ held_standing xs f i h (stands_later f i x xs s) e

pub stands_held : (hs : List HeldPin) (f i : ℕ) → StandsAt f i hs → held_at (held_in hs) f ≢ None
stands_held [] f i s = absurd (let e = s.inside in omega arith)
stands_held (x ∷ xs) f zero s = λ none. none-some (held_of x) (sym none ∙ held_here (held_of x) (held_in xs) f (stands_first f x xs s))
stands_held (x ∷ xs) f (suc i) s = λ none. stands_held xs f i (stands_later f i x xs s) (sym (held_past (held_of x) (held_in xs) f (stands_past f i x xs s)) ∙ none)

pub more_standing : (hs : List HeldPin) (f i n : ℕ) (h : HeldPin) → StandsAt f i hs → h ≡ get_or hs i h → n ≡ h.tokens + 1 → held_in (set hs i (record h { tokens = n })) ≡ tokens_more f (held_in hs)
more_standing [] f i n h s e m = let inside = s.inside in absurd (omega arith)
more_standing (x ∷ xs) f zero n h s e m = ap (λ (y : HeldPin × ℕ). record (held_of y.0) { tokens = y.1 } ∷ held_in xs) (λ k. (e k, m k)) ∙ ap (λ (y : HeldPin). record (held_of x) { tokens = y.tokens + 1 } ∷ held_in xs) e ∙ sym (more_here (held_of x) (held_in xs) f (stands_first f x xs s))
more_standing (x ∷ xs) f (suc i) n h s e m = ap (λ (t : Tokens). held_of x ∷ t) (more_standing xs f i n h (stands_later f i x xs s) e m) ∙ sym (more_past (held_of x) (held_in xs) f (stands_past f i x xs s))

pub less_standing : (hs : List HeldPin) (f i n : ℕ) (h : HeldPin) → StandsAt f i hs → h ≡ get_or hs i h → n ≡ h.tokens - 1 → h.tokens ≢ 1 → held_in (set hs i (record h { tokens = n })) ≡ tokens_less f (held_in hs)
less_standing [] f i n h s e m more = let inside = s.inside in absurd (omega arith)
less_standing (x ∷ xs) f zero n h s e m more = ap (λ (y : HeldPin × ℕ). record (held_of y.0) { tokens = y.1 } ∷ held_in xs) (λ k. (e k, m k)) ∙ ap (λ (y : HeldPin). record (held_of x) { tokens = y.tokens - 1 } ∷ held_in xs) e ∙ sym (less_here (held_of x) (held_in xs) f (stands_first f x xs s) (subst (λ (y : HeldPin). y.tokens ≢ 1) e more))
less_standing (x ∷ xs) f (suc i) n h s e m more = ap (λ (t : Tokens). held_of x ∷ t) (less_standing xs f i n h (stands_later f i x xs s) e m more) ∙ sym (less_past (held_of x) (held_in xs) f (stands_past f i x xs s))

pub less_removed : (hs : List HeldPin) (f i : ℕ) (h : HeldPin) → StandsAt f i hs → h ≡ get_or hs i h → h.tokens ≡ 1 → held_in (take i hs ++ drop (suc i) hs) ≡ tokens_less f (held_in hs)
less_removed [] f i h s e one = let inside = s.inside in absurd (omega arith)
less_removed (x ∷ xs) f zero h s e one = sym (less_last (held_of x) (held_in xs) f (stands_first f x xs s) (ap (λ (y : HeldPin). y.tokens) (sym e) ∙ one))
less_removed (x ∷ xs) f (suc i) h s e one = ap (λ (t : Tokens). held_of x ∷ t) (less_removed xs f i h (stands_later f i x xs s) e one) ∙ sym (less_past (held_of x) (held_in xs) f (stands_past f i x xs s))

-- the pins before a place
pub before_more : (hs : List HeldPin) (f i : ℕ) (d : HeldPin) → i < length hs → (get_or hs i d).pin.frame ≢ f → held_at (held_in (take i hs)) f ≡ None → held_at (held_in (take (suc i) hs)) f ≡ None
before_more [] f i d inside n none = absurd (omega arith)
before_more (x ∷ xs) f zero d inside n none = held_past (held_of x) [] f (λ e. n (sym e))
before_more (x ∷ xs) f (suc i) d inside n none = held_past (held_of x) (held_in (take (suc i) xs)) f (none_past (held_of x) (held_in (take i xs)) f none) ∙ before_more xs f i d (omega arith) n (none_rest (held_of x) (held_in (take i xs)) f none)

pub others_more : (hs : List HeldPin) (tag : Tag) (i : ℕ) (d : HeldPin) → i < length hs → (get_or hs i d).tag ≢ tag → AreOfOthers tag (take i hs) → AreOfOthers tag (take (suc i) hs)
others_more [] tag i d inside n others = absurd (omega arith)
others_more (x ∷ xs) tag zero d inside n others = (n, tt)
others_more (x ∷ xs) tag (suc i) d inside n others = (others.0, others_more xs tag i d (omega arith) n others.1)

-- a block that is pinned, and one that isn't
frame_before : (hs : List HeldPin) (i : ℕ) (h : HeldPin) (f : ℕ) → i < length hs → h ≡ get_or hs i h → held_at (held_in hs) f ≡ None → h.pin.frame ≡ f → ⊥
frame_before [] i h f inside e none d = absurd (omega arith)
frame_before (x ∷ xs) zero h f inside e none d = none_past (held_of x) (held_in xs) f none (sym d ∙ ap (λ (y : HeldPin). y.pin.frame) e)
frame_before (x ∷ xs) (suc i) h f inside e none d = frame_before xs i h f (omega arith) e (none_rest (held_of x) (held_in xs) f none) d

pub held_by_frame : (hs : List HeldPin) (i : ℕ) (h : HeldPin) → TokensAreCounted (held_in hs) → i < length hs → h ≡ get_or hs i h → held_at (held_in hs) h.pin.frame ≡ Some (held_of h)
held_by_frame [] i h c inside e = absurd (omega arith)
held_by_frame (x ∷ xs) zero h c inside e = held_here (held_of x) (held_in xs) h.pin.frame (ap (λ (y : HeldPin). y.pin.frame) e) ∙ ap (λ (y : HeldPin). Some (held_of y)) (sym e)
held_by_frame (x ∷ xs) (suc i) h c inside e = held_past (held_of x) (held_in xs) h.pin.frame (frame_before xs i h x.pin.frame (omega arith) e c.1) ∙ held_by_frame xs i h c.2 (omega arith) e

pub pinned_for : (hs : List HeldPin) (i : ℕ) (h : HeldPin) (tag : Tag) → TokensAreCounted (held_in hs) → i < length hs → IsOf tag i hs → h ≡ get_or hs i h → IsPinnedFor tag h.pin.frame (held_in hs)
pinned_for hs i h tag c inside of e = record { held = held_of h; there = held_by_frame hs i h c inside e; same = ap packed_tag (of h e) }

packed_apart : (a b : Tag) → names_block a ≡ true → names_block b ≡ true → packed_tag a ≡ packed_tag b → a ≡ b
packed_apart a b p q e = same_Some a b (sym (packed_is a p) ∙ ap unpacked_tag e ∙ packed_is b q)

pub new_of_others : (hs : List HeldPin) (tag : Tag) → names_block tag ≡ true → AreOfBlocks hs → AreOfOthers tag hs → (f : ℕ) (h : HeldFrame) → held_at (held_in hs) f ≡ Some h → h.tag ≡ packed_tag tag → ⊥
new_of_others [] tag named all others f h e same = none-some h e
new_of_others (x ∷ xs) tag named all others f h e same = dite (ℕ_discrete f x.pin.frame)
    (λ d. others.0 (packed_apart x.tag tag all.0 named (ap (λ (y : HeldFrame). y.tag) (same_Some (held_of x) h (sym (held_here (held_of x) (held_in xs) f d) ∙ e)) ∙ same)))
    (λ n. new_of_others xs tag named all.1 others.1 f h (sym (held_past (held_of x) (held_in xs) f n) ∙ e) same)

-- each is still of a block
pub blocks_set : (hs : List HeldPin) (i n : ℕ) (h : HeldPin) → h ≡ get_or hs i h → AreOfBlocks hs → AreOfBlocks (set hs i (record h { tokens = n }))
blocks_set [] i n h e all = all
blocks_set (x ∷ xs) zero n h e all = (subst (λ (y : HeldPin). names_block y.tag ≡ true) (sym e) all.0, all.1)
blocks_set (x ∷ xs) (suc i) n h e all = (all.0, blocks_set xs i n h e all.1)

pub blocks_removed : (hs : List HeldPin) (i : ℕ) → AreOfBlocks hs → AreOfBlocks (take i hs ++ drop (suc i) hs)
blocks_removed [] zero all = all
blocks_removed [] (suc i) all = all
blocks_removed (x ∷ xs) zero all = all.1
blocks_removed (x ∷ xs) (suc i) all = (all.0, blocks_removed xs i all.1)

pub blocks_with : (hs : List HeldPin) (h : HeldPin) → names_block h.tag ≡ true → AreOfBlocks hs → AreOfBlocks (hs ++ h ∷ [])
blocks_with [] h named all = (named, tt)
blocks_with (x ∷ xs) h named all = (all.0, blocks_with xs h named all.1)

-- what the invariant of the list says after a token more, and after one less
pub record CountsTokens (n : ℕ) (t : Tokens) : Type 0 where
  pub counts : n ≡ count_of t
  pub counted : TokensAreCounted t

pub counts_with : (n : ℕ) (t u : Tokens) (h : HeldFrame) → u ≡ t ++ h ∷ [] → h.tokens ≡ 1 → held_at t h.frame ≡ None → CountsTokens n t → CountsTokens (n + 1) u
counts_with n t u h e one none c = subst (CountsTokens (n + 1)) (sym e) record {
  counts = let a = c.counts in let b = count-with t h in omega arith;
  counted = counted_with t h c.counted (omega arith) none;
}

pub counts_more : (n f : ℕ) (t u : Tokens) → u ≡ tokens_more f t → held_at t f ≢ None → CountsTokens n t → CountsTokens (n + 1) u
counts_more n f t u e some c = subst (CountsTokens (n + 1)) (sym e) record {
  counts = let a = c.counts in let b = count-more t f some in omega arith;
  counted = counted_more t f c.counted;
}

pub counts_less : (n f : ℕ) (t u : Tokens) → u ≡ tokens_less f t → held_at t f ≢ None → CountsTokens n t → CountsTokens (n - 1) u
counts_less n f t u e some c = subst (CountsTokens (n - 1)) (sym e) record {
  counts = let a = c.counts in let b = count-less t f c.counted some in omega arith;
  counted = counted_less t f c.counted;
}

-- where there are none, or one, or more
pub not_counted : (t : Tokens) (f : ℕ) (h : HeldFrame) → TokensAreCounted t → held_at t f ≡ Some h → 0 < h.tokens
not_counted [] f h c e = absurd (none-some h e)
not_counted (x ∷ xs) f h c e = dite (ℕ_discrete f x.frame)
    (λ d. subst (λ (y : HeldFrame). 0 < y.tokens) (same_Some x h (sym (held_here x xs f d) ∙ e)) c.0)
    (λ n. not_counted xs f h c.2 (sym (held_past x xs f n) ∙ e))

pub still_held : (t : Tokens) (f : ℕ) → tokens_of (held_at t f) ≢ 1 → held_at t f ≢ None → held_at (tokens_less f t) f ≢ None
still_held t f more some none = some (none_alike (held_at (tokens_less f t) f) (held_at t f) (sym (less_tag t f more)) none)

pub length_le : (hs : List HeldPin) → TokensAreCounted (held_in hs) → length hs ≤ count_of (held_in hs)
length_le [] c = omega arith
length_le (h ∷ hs) c = let tokens = c.0 in let rest = length_le hs c.2 in omega arith

-- what `==` answers at the same tags
fork_same : (f : Fork) → sameb the_type f f ≡ true
fork_same Main = refl
fork_same Fsm = refl
fork_same Vm = refl
fork_same Init = refl

tag_same : (b : Tag) → (nat_eq b.rel.0 b.rel.0 && (sameb the_type b.fork b.fork && nat_eq b.block b.block)) ≡ true
tag_same b = rw (eq-eqb b.rel.0 b.rel.0 refl, fork_same b.fork, eq-eqb b.block b.block refl) refl

pub other_tag : (a b : Tag) → false ≡ (nat_eq a.rel.0 b.rel.0 && (sameb the_type a.fork b.fork && nat_eq a.block b.block)) → a ≢ b
other_tag a b n e = let same : false ≡ true = n ∙ subst (λ (x : Tag). (nat_eq x.rel.0 b.rel.0 && (sameb the_type x.fork b.fork && nat_eq x.block b.block)) ≡ true) (sym e) (tag_same b) in cc

-- a place is read twice
read_twice : (hs : List HeldPin) (i : ℕ) (h k : HeldPin) → h ≡ get_or hs i h → k ≡ get_or hs i k → i < length hs → h ≡ k
read_twice [] i h k e d inside = absurd (omega arith)
read_twice (x ∷ xs) zero h k e d inside = e ∙ sym d
read_twice (x ∷ xs) (suc i) h k e d inside = read_twice xs i h k e d (omega arith)

pub several_same : (hs : List HeldPin) (i : ℕ) (h k : HeldPin) → h ≡ get_or hs i h → k ≡ get_or hs i k → i < length hs → 1 < h.tokens → 1 < k.tokens
several_same hs i h k e d inside more = let same = ap (λ (y : HeldPin). y.tokens) (read_twice hs i h k e d inside) in omega arith

pub above_one : (n : ℕ) → 1 < n → n ≢ 1
above_one n more one = omega arith

-- The pin at a place is taken out with its last token
pub record Removed (hs ks : List HeldPin) (f : ℕ) (k : HeldPin) : Type 0 where
  pub shows : held_in ks ≡ tokens_less f (held_in hs)
  pub frame : k.pin.frame ≡ f
  pub one : tokens_of (held_at (held_in hs) f) ≡ 1
  pub none : held_at (held_in ks) f ≡ None

pub removed : (hs ks : List HeldPin) (f i : ℕ) (h k : HeldPin) → StandsAt f i hs → h ≡ get_or hs i h → k ≡ get_or hs i k → h.tokens ≤ 1 → TokensAreCounted (held_in hs) → ks ≡ take i hs ++ drop (i + 1) hs → Removed hs ks f k
removed hs ks f i h k stands e d few counted is = record { shows = shows; frame = stands.here k d; one = ap tokens_of here ∙ one; none = ap (λ (t : Tokens). held_at t f) shows ∙ less_none (held_in hs) f counted (ap tokens_of here ∙ one) }
  where
    here : held_at (held_in hs) f ≡ Some (held_of h)
    here = held_standing hs f i h stands e

    one : h.tokens ≡ 1
    one = let some = not_counted (held_in hs) f (held_of h) counted here in omega arith

    shows : held_in ks ≡ tokens_less f (held_in hs)
    shows = ap held_in (is ∙ ap (λ (n : ℕ). take i hs ++ drop n hs) (add-one i)) ∙ less_removed hs f i h stands e one

-- a token that was given and comes back
pub less_with : (t : Tokens) (h : HeldFrame) (f : ℕ) → f ≡ h.frame → h.tokens ≡ 1 → held_at t f ≡ None → tokens_less f (t ++ h ∷ []) ≡ t
less_with [] h f e one none = less_last h [] f e one
less_with (x ∷ xs) h f e one none = less_past x (xs ++ h ∷ []) f (none_past x xs f none) ∙ ap (λ (t : Tokens). x ∷ t) (less_with xs h f e one (none_rest x xs f none))

pub less_more : (t : Tokens) (f : ℕ) → TokensAreCounted t → held_at t f ≢ None → tokens_less f (tokens_more f t) ≡ t
less_more [] f c some = absurd (some refl)
less_more (h ∷ hs) f c some = let tokens = c.0 in dite (ℕ_discrete f h.frame)
    (λ e. ap (tokens_less f) (more_here h hs f e) ∙ less_here (record h { tokens = h.tokens + 1 }) hs f e (λ one. omega arith) ∙ ap (λ (n : ℕ). record h { tokens = n } ∷ hs) (omega arith))
    (λ n. ap (tokens_less f) (more_past h hs f n) ∙ less_past h (tokens_more f hs) f n ∙ ap (λ (t : Tokens). h ∷ t) (less_more hs f c.2 (λ none. some (held_past h hs f n ∙ none))))

-- which isn't the last one, where there was one before
pub more_several : (t : Tokens) (f : ℕ) → TokensAreCounted t → held_at t f ≢ None → 1 < tokens_of (held_at (tokens_more f t) f)
more_several [] f c some = absurd (some refl)
more_several (h ∷ hs) f c some = let tokens = c.0 in dite (ℕ_discrete f h.frame)
    (λ e. let a : tokens_of (held_at (tokens_more f (h ∷ hs)) f) ≡ h.tokens + 1 = ap (λ (t : Tokens). tokens_of (held_at t f)) (more_here h hs f e) ∙ ap tokens_of (held_here (record h { tokens = h.tokens + 1 }) hs f e) in omega arith)
    (λ n. subst (λ (o : Option HeldFrame). 1 < tokens_of o) (sym (ap (λ (t : Tokens). held_at t f) (more_past h hs f n) ∙ held_past h (tokens_more f hs) f n)) (more_several hs f c.2 (λ none. some (held_past h hs f n ∙ none))))
