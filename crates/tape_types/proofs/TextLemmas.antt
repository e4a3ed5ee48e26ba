-- The parts of the text of a date and a time of day.
use Rattle.std.proofs.Common.{◌≡◌, ℕ, suc, ◌-◌, ◌<◌, ◌≤◌, List, [], ◌∷◌, ◌++◌, length, get_or, drop, true, refl, sym, ap, ◌∙◌, subst, arith, length-take, length-drop}
use Rattle.std.specs.List.{slice_range}
use Rattle.std.proofs.lemmas.List.{drop_all}
use Rattle.std.proofs.lemmas.List.Folds.{drop_split}
use Rattle.std.proofs.Math.Seq.{drop-cons}
use Rattle.tape_types.specs.declared.times.Civil.{Civil}
use Rattle.tape_types.specs.TimeParts.{has_marks, HasPlaces}
use Rattle.tape_types.specs.Times.{digits, civil_text}
use Rattle.tape_types.proofs.DigitLemmas.{digits_injective, length-digits}

-- what a text with this date and time of day has at its places
pub record HasParts (text : List ℕ) (c : Civil) : Type 0 where
  pub long : length text ≡ 30
  pub marks : has_marks text ≡ true
  pub year : slice_range text 0 4 ≡ digits 4 c.year
  pub month : slice_range text 5 7 ≡ digits 2 c.month
  pub day : slice_range text 8 10 ≡ digits 2 c.day
  pub hour : slice_range text 11 13 ≡ digits 2 c.hour
  pub minute : slice_range text 14 16 ≡ digits 2 c.minute
  pub second : slice_range text 17 19 ≡ digits 2 c.second
  pub nanos : slice_range text 20 29 ≡ digits 9 c.nanos

civil_text-parts : (c : Civil) → HasParts (civil_text c) c
unfolding civil_text
civil_text-parts c = record { long = refl; marks = refl; year = refl; month = refl; day = refl; hour = refl; minute = refl; second = refl; nanos = refl }

-- the text of a date and time of day has its numbers and signs at their places
pub parts_of : (text : List ℕ) (c : Civil) → text ≡ civil_text c → HasParts text c
parts_of text c e = subst (λ (t : List ℕ). HasParts t c) (sym e) (civil_text-parts c)

marks_are : (text : List ℕ) → has_marks text ≡ true → (get_or text 4 0 ≡ 45) × (get_or text 7 0 ≡ 45) × (get_or text 10 0 ≡ 84) × (get_or text 13 0 ≡ 58) × (get_or text 16 0 ≡ 58) × (get_or text 19 0 ≡ 46) × (get_or text 29 0 ≡ 90)
marks_are text e = (grind arith, grind arith, grind arith, grind arith, grind arith, grind arith, grind arith)

-- a part, the mark behind it, and what follows
part_and_mark : (text part rest : List ℕ) (at end mark : ℕ) → at ≤ end → end < length text → slice_range text at end ≡ part → get_or text end 0 ≡ mark → drop (suc end) text ≡ rest → drop at text ≡ part ++ mark ∷ rest
part_and_mark text part rest at end mark low high here mark_is follows =
    drop_split text at end low ∙ rw (here, drop-cons text end 0 high, mark_is, follows)

-- these parts at these places are the whole text
pub text_of : (text : List ℕ) (c : Civil) → HasParts text c → text ≡ civil_text c
unfolding civil_text
text_of text c h =
    let marks = marks_are text h.marks in
    let long : length text ≡ 30 = h.long in
    let done : drop 30 text ≡ [] = drop_all 30 text (omega arith) in
    let nanos = part_and_mark text (digits 9 c.nanos) [] 20 29 90 (omega arith) (omega arith) h.nanos marks.6 done in
    let second = part_and_mark text (digits 2 c.second) _ 17 19 46 (omega arith) (omega arith) h.second marks.5 nanos in
    let minute = part_and_mark text (digits 2 c.minute) _ 14 16 58 (omega arith) (omega arith) h.minute marks.4 second in
    let hour = part_and_mark text (digits 2 c.hour) _ 11 13 58 (omega arith) (omega arith) h.hour marks.3 minute in
    let day = part_and_mark text (digits 2 c.day) _ 8 10 84 (omega arith) (omega arith) h.day marks.2 hour in
    let month = part_and_mark text (digits 2 c.month) _ 5 7 45 (omega arith) (omega arith) h.month marks.1 day in
    part_and_mark text (digits 4 c.year) _ 0 4 45 (omega arith) (omega arith) h.year marks.0 month

-- digits that were counted by their length
pub digits_of : (part : List ℕ) (width n : ℕ) → length part ≡ width → part ≡ digits (length part) n → part ≡ digits width n
digits_of part width n long e = subst (λ (k : ℕ). part ≡ digits k n) long e

-- a part that shows no number in digits shows none of a fixed count of digits
pub no_digits : (part : List ℕ) (width n : ℕ) → ((k : ℕ) → part ≡ digits (length part) k → ⊥) → part ≡ digits width n → ⊥
no_digits part width n none e =
    let long : width ≡ length part = sym (length-digits width n) ∙ ap length (sym e) in
    none n (subst (λ (k : ℕ). part ≡ digits k n) long e)

-- how long a part of a text of 30 characters is
pub length-part : (text : List ℕ) (at end : ℕ) → length text ≡ 30 → at ≤ end → end ≤ 30 → length (slice_range text at end) ≡ end - at
length-part text at end long low high = simp (length-take, length-drop) (omega arith)

-- dates and times of day that agree in all their parts are one
pub same_civil : (a b : Civil) → a.year ≡ b.year → a.month ≡ b.month → a.day ≡ b.day → a.hour ≡ b.hour → a.minute ≡ b.minute → a.second ≡ b.second → a.nanos ≡ b.nanos → a ≡ b
same_civil a b year month day hour minute second nanos =
    λ i. record { year = year i; month = month i; day = day i; hour = hour i; minute = minute i; second = second i; nanos = nanos i }

-- two dates and times of day with one text are the same
pub civil_text_injective : (a b : Civil) → HasPlaces a → HasPlaces b → civil_text a ≡ civil_text b → a ≡ b
civil_text_injective a b h k e =
    let x = civil_text-parts a in
    let y = parts_of (civil_text a) b e in
    let year : a.year ≡ b.year = digits_injective 4 a.year b.year h.year k.year (sym x.year ∙ y.year) in
    let month : a.month ≡ b.month = digits_injective 2 a.month b.month h.month k.month (sym x.month ∙ y.month) in
    let day : a.day ≡ b.day = digits_injective 2 a.day b.day h.day k.day (sym x.day ∙ y.day) in
    let hour : a.hour ≡ b.hour = digits_injective 2 a.hour b.hour h.hour k.hour (sym x.hour ∙ y.hour) in
    let minute : a.minute ≡ b.minute = digits_injective 2 a.minute b.minute h.minute k.minute (sym x.minute ∙ y.minute) in
    let second : a.second ≡ b.second = digits_injective 2 a.second b.second h.second k.second (sym x.second ∙ y.second) in
    let nanos : a.nanos ≡ b.nanos = digits_injective 9 a.nanos b.nanos h.nanos k.nanos (sym x.nanos ∙ y.nanos) in
    same_civil a b year month day hour minute second nanos

-- the text, byte by byte
pub text_from_bytes : (y m d h i s n : List ℕ) (c : Civil) → y ≡ digits 4 c.year → m ≡ digits 2 c.month → d ≡ digits 2 c.day → h ≡ digits 2 c.hour → i ≡ digits 2 c.minute → s ≡ digits 2 c.second → n ≡ digits 9 c.nanos
    → ◌≡◌ {A = List ℕ} (get_or y 0 0 ∷ get_or y 1 0 ∷ get_or y 2 0 ∷ get_or y 3 0 ∷ 45 ∷ get_or m 0 0 ∷ get_or m 1 0 ∷ 45 ∷ get_or d 0 0 ∷ get_or d 1 0 ∷ 84 ∷ get_or h 0 0 ∷ get_or h 1 0 ∷ 58 ∷ get_or i 0 0 ∷ get_or i 1 0 ∷ 58 ∷ get_or s 0 0 ∷ get_or s 1 0 ∷ 46 ∷ get_or n 0 0 ∷ get_or n 1 0 ∷ get_or n 2 0 ∷ get_or n 3 0 ∷ get_or n 4 0 ∷ get_or n 5 0 ∷ get_or n 6 0 ∷ get_or n 7 0 ∷ get_or n 8 0 ∷ 90 ∷ []) (civil_text c)
unfolding civil_text
text_from_bytes y m d h i s n c year month day hour minute second nanos =
    rw (year, month, day, hour, minute, second, nanos) refl
