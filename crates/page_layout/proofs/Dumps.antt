-- The text of a dump, one piece more at a time.
use Rattle.std.proofs.Common.{◌≡◌, ◌<◌, ◌≤◌, ◌+◌, ◌-◌, ◌/◌, ◌%◌, ℕ, zero, suc, Bool, true, false, not, ◌&&◌, cond, eqb, List, [], ◌∷◌, ◌++◌, length, get_or, take, sym, ap, ap₂, ◌∙◌, append_assoc, add-one, codes, arith}
use Rattle.std.specs.Fmt.{decimal}
use Rattle.std.specs.List.{flat_map, range_with_len}
use Rattle.std.proofs.lemmas.Bool.Decides.{nat_tests}
use Rattle.std.proofs.lemmas.List.{append-nil, flat_map_more, take_more}
use Rattle.page_layout.specs.declared.page.Item.{Item}
use Rattle.page_layout.specs.Dump.{hex_digit, hex_of, item_line, item_text, pointer_head, pointer_line, pointer_lines, pointer_tail, used_lines}
use Rattle.page_layout.specs.Fields.{item_count, item_of, pointer_at}
use Rattle.page_layout.specs.Soundness.{is_new_page, is_sound_page}
use Rattle.page_layout.proofs.Keys.{range_more}

pub hex_none : (old : List ℕ) → old ≡ old ++ hex_of []
unfolding hex_of
hex_none old = sym (append-nil old)

pub hex_step : (old bs t0 t1 t2 : List ℕ) (i e1 e2 : ℕ) → i < length bs → t0 ≡ old ++ hex_of (take i bs) → t1 ≡ t0 ++ e1 ∷ [] → t2 ≡ t1 ++ e2 ∷ [] → e1 ≡ hex_digit (get_or bs i 0 / 16) → e2 ≡ hex_digit (get_or bs i 0 % 16) → t2 ≡ old ++ hex_of (take (i + 1) bs)
unfolding hex_of
hex_step old bs t0 t1 t2 i e1 e2 below before first second is1 is2 =
    let f = λ (b : ℕ). hex_digit (b / 16) ∷ hex_digit (b % 16) ∷ [] in
    second ∙ ap (λ (l : List ℕ). l ++ e2 ∷ []) first ∙ append_assoc t0 (e1 ∷ []) (e2 ∷ [])
    ∙ ap₂ (λ (l r : List ℕ). l ++ r) before (ap₂ (λ (a b : ℕ). a ∷ b ∷ []) is1 is2)
    ∙ flat_map_more f old (take i bs) (get_or bs i 0)
    ∙ ap (λ (l : List ℕ). old ++ flat_map f l) (sym (take_more bs i 0 below))

pub lines_none : (page old : List ℕ) → old ≡ old ++ pointer_lines page 0
unfolding pointer_lines
lines_none page old = sym (append-nil old)

pub lines_step : (page old t0 t1 : List ℕ) (n : ℕ) → t0 ≡ old ++ pointer_lines page n → t1 ≡ t0 ++ pointer_line page (n + 1 - 1) → t1 ≡ old ++ pointer_lines page (n + 1)
unfolding pointer_lines
lines_step page old t0 t1 n before more =
    let here : n + 1 - 1 ≡ n = omega arith in
    more ∙ ap₂ (λ (l : List ℕ) (m : ℕ). l ++ pointer_line page m) before here
    ∙ flat_map_more (pointer_line page) old (range_with_len 0 n) n
    ∙ ap (λ (l : List ℕ). old ++ flat_map (pointer_line page) l) (sym (range_more n) ∙ ap (range_with_len 0) (sym (add-one n)))

pub tail_none : (page : List ℕ) (i : Item) (old : List ℕ) → (i.state ≡ 1 → ⊥) → old ≡ old ++ pointer_tail page i
unfolding pointer_tail
tail_none page i old other =
    let not1 : eqb i.state 1 ≡ false = grind (arith, nat_tests) in
    sym (ap (λ (b : Bool). old ++ cond b (item_text page i.offset i.length ++ codes "\n") []) not1 ∙ append-nil old)

pub tail_some : (page : List ℕ) (i : Item) (old t0 t1 : List ℕ) → i.state ≡ 1 → t0 ≡ old ++ item_text page i.offset i.length → t1 ≡ t0 ++ codes "\n" → t1 ≡ old ++ pointer_tail page i
unfolding pointer_tail
tail_some page i old t0 t1 one first second =
    second ∙ ap (λ (l : List ℕ). l ++ codes "\n") first ∙ append_assoc old (item_text page i.offset i.length) (codes "\n")
    ∙ sym (ap (λ (s : ℕ). old ++ cond (eqb s 1) (item_text page i.offset i.length ++ codes "\n") []) one)

pieces : (a b c d e f g t n : List ℕ) → (a ++ (b ++ (c ++ (d ++ (e ++ (f ++ g)))))) ++ (t ++ n) ≡ a ++ (b ++ (c ++ (d ++ (e ++ (f ++ (g ++ (t ++ n)))))))
pieces a b c d e f g t n = simp append_assoc

-- the two parts of a line
line_parts : (page : List ℕ) (number : ℕ) (i : Item) → i.state < 4 → pointer_head number i ++ pointer_tail page i ≡ item_line page number i
unfolding pointer_head pointer_tail item_line
line_parts page number i below = of_state i.state i.offset i.length below
  where
    of_state : (s o l : ℕ) → s < 4 → pointer_head number (record { offset = o; state = s; length = l }) ++ pointer_tail page (record { offset = o; state = s; length = l }) ≡ item_line page number (record { offset = o; state = s; length = l })
    of_state zero o l below = append-nil _
    of_state (suc zero) o l below = pieces (codes "  ") (decimal number) (codes " normal ") (decimal o) (codes " ") (decimal l) (codes " ") (item_text page o l) (codes "\n")
    of_state (suc (suc zero)) o l below = append-nil _
    of_state (suc (suc (suc zero))) o l below = append-nil _
    of_state (suc (suc (suc (suc s)))) o l below = absurd (omega arith)

pub line_is : (page : List ℕ) (number : ℕ) (i : Item) (old head t0 t1 : List ℕ) → 1 ≤ number → i ≡ item_of (pointer_at page (number - 1)) → head ≡ pointer_head number i → t0 ≡ old ++ head → t1 ≡ t0 ++ pointer_tail page i → t1 ≡ old ++ pointer_line page (number - 1)
unfolding pointer_line
line_is page number i old head t0 t1 first is head_is first_part second =
    let below : (item_of (pointer_at page (number - 1))).state < 4 = omega arith in
    let named : number ≡ number - 1 + 1 = omega arith in
    second ∙ ap (λ (l : List ℕ). l ++ pointer_tail page i) (first_part ∙ ap (λ (h : List ℕ). old ++ h) head_is)
    ∙ append_assoc old (pointer_head number i) (pointer_tail page i)
    ∙ ap (λ (x : Item). old ++ (pointer_head number x ++ pointer_tail page x)) is
    ∙ ap (λ (l : List ℕ). old ++ l) (line_parts page number (item_of (pointer_at page (number - 1))) below)
    ∙ ap (λ (n : ℕ). old ++ item_line page n (item_of (pointer_at page (number - 1)))) named

pub used_none_new : (page old : List ℕ) → is_new_page page ≡ true → old ≡ old ++ used_lines page
unfolding used_lines
used_none_new page old new =
    let no_lines : (is_sound_page page && not (is_new_page page)) ≡ false = grind (arith, nat_tests) in
    sym (ap (λ (b : Bool). old ++ cond b (pointer_lines page (item_count page)) []) no_lines ∙ append-nil old)

pub used_none : (page old : List ℕ) → is_sound_page page ≡ false → old ≡ old ++ used_lines page
unfolding used_lines
used_none page old unsound = sym (ap (λ (b : Bool). old ++ cond (b && not (is_new_page page)) (pointer_lines page (item_count page)) []) unsound ∙ append-nil old)

pub used_some : (page : List ℕ) → is_sound_page page ≡ true → is_new_page page ≡ false → pointer_lines page (item_count page) ≡ used_lines page
unfolding used_lines
used_some page sound used = sym (ap₂ (λ (a b : Bool). cond (a && not b) (pointer_lines page (item_count page)) []) sound used)
