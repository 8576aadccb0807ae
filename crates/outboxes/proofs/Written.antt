-- The notices in bytes of which sixteen are written over.
use Rattle.std.proofs.Common.{◌≡◌, ℕ, ◌+◌, ◌-◌, ◌*◌, ◌/◌, ◌<◌, ◌≤◌, ◌≢◌, List, ◌++◌, Some, length, get_or, take, drop, set, rules, sym, refl, ap, ◌∙◌, ⊎_elim, arith}
use Rattle.std.specs.List.{slice_get}
use Rattle.std.proofs.lemmas.Bool.{cases_eq, cases_lt}
use Rattle.std.proofs.lemmas.List.{same_lists, length-set, get_or-drop, get_or-take, get_or-set_same, get_or-set_other, drop-drop, places}
use Rattle.std.proofs.lemmas.List.FromFn.{length-map-range_with_len, get_or-map-range_with_len}
use Rattle.std.proofs.lemmas.Option.{slice_get-get_or}
use Rattle.market.specs.declared.notices.Notice.{Notice}
use Rattle.market.specs.Codes.{bytes_of, read_of}
use Rattle.outboxes.specs.Records.{record_at, records}
use borrow.Rule.Slice.PartMut.{put_mid}

pub records_count : (bs : List ℕ) → length (records bs) ≡ length bs / 16
records_count bs = length-map-range_with_len (record_at bs) 0 (length bs / 16)

pub read_same : (cs bs : List ℕ) → ((i : ℕ) → i < 16 → get_or cs i 0 ≡ get_or bs i 0) → read_of cs ≡ read_of bs
read_same cs bs h =
    let a0 = h 0 (omega arith) in let a1 = h 1 (omega arith) in let a2 = h 2 (omega arith) in let a3 = h 3 (omega arith) in
    let a4 = h 4 (omega arith) in let a5 = h 5 (omega arith) in let a6 = h 6 (omega arith) in let a7 = h 7 (omega arith) in
    let a8 = h 8 (omega arith) in let a9 = h 9 (omega arith) in let a10 = h 10 (omega arith) in let a11 = h 11 (omega arith) in
    let a12 = h 12 (omega arith) in let a13 = h 13 (omega arith) in let a14 = h 14 (omega arith) in let a15 = h 15 (omega arith) in cc

-- a copy of a place's bytes is read as its notice
pub record_read : (bs code : List ℕ) (k : ℕ) → k < length (records bs) → code ≡ take (16 * k + 16 - 16 * k) (drop (16 * k) bs) → slice_get (records bs) k ≡ Some (read_of code)
record_read bs code k l is =
    let n = records_count bs in
    let d : Notice = record_at bs k in
    let same : read_of code ≡ record_at bs k = read_same code (drop (16 * k) bs) (λ i h. ap (λ l. get_or l i 0) is ∙ get_or-take (16 * k + 16 - 16 * k) (drop (16 * k) bs) i 0 (omega arith)) in
    slice_get-get_or (records bs) k d l ∙ ap Some (get_or-map-range_with_len (record_at bs) 0 (length bs / 16) k k d (omega arith) (omega arith) ∙ sym same)

-- the bytes xs with sixteen others written from o on
module _ (xs code : List ℕ) (o : ℕ) (long : length code ≡ 16) (fits : o + 16 ≤ length xs) where
  abbrev written : List ℕ
  written = take o xs ++ (code ++ drop (o + 16) xs)

  pub length-written : length written ≡ length xs
  length-written = search (rules, places)

  written_here : (i : ℕ) → i < 16 → get_or written (o + i) 0 ≡ get_or code i 0
  written_here i h = search (rules, places)

  written_below : (p : ℕ) → p < o → get_or written p 0 ≡ get_or xs p 0
  written_below p h = search (rules, places)

  written_above : (p : ℕ) → o + 16 ≤ p → get_or written p 0 ≡ get_or xs p 0
  written_above p h = search (rules, places)

-- one record is written, and the others stay
module _ (xs code : List ℕ) (k : ℕ) (long : length code ≡ 16) (less : k < length xs / 16) where
  pub fits : 16 * k + 16 ≤ length xs
  fits = omega arith

  abbrev after : List ℕ
  after = written xs code (16 * k) long fits

  record_here : record_at after k ≡ read_of code
  record_here = read_same _ _ (λ i h. get_or-drop (16 * k) _ i 0 ∙ written_here xs code (16 * k) long fits i h)

  record_other : (j : ℕ) → j ≢ k → record_at after j ≡ record_at xs j
  record_other j ne = read_same _ _ (λ i h.
      get_or-drop (16 * j) _ i 0
      ∙ ⊎_elim (λ lt. written_below xs code (16 * k) long fits (16 * j + i) (omega arith)) (λ ge. written_above xs code (16 * k) long fits (16 * j + i) (omega arith)) (cases_lt j k)
      ∙ sym (get_or-drop (16 * j) xs i 0))

  pub records-written : records after ≡ set (records xs) k (read_of code)
  records-written =
      let l = length-written xs code (16 * k) long fits in
      let n : ℕ = length xs / 16 in
      let lx = records_count xs in
      let ly = records_count after in
      let ls = length-set (records xs) k (read_of code) in
      same_lists (records after) (set (records xs) k (read_of code)) (omega arith) (λ j d h.
      get_or-map-range_with_len (record_at after) 0 (length after / 16) j j d (omega arith) (omega arith)
      ∙ ⊎_elim
      (λ e. ap (record_at after) e ∙ record_here ∙ sym (ap (λ i. get_or (set (records xs) k (read_of code)) i d) e ∙ get_or-set_same (records xs) k (read_of code) d (omega arith)))
      (λ ne. record_other j ne ∙ sym (get_or-set_other (records xs) k j (read_of code) d ne ∙ get_or-map-range_with_len (record_at xs) 0 n j j d (omega arith) (omega arith)))
      (cases_eq j k))

-- what a write of a notice's bytes to its place makes of the bytes, and of the notices
pub bytes_put : (o : ℕ) (xs ys : List ℕ) (n : Notice) → ys ≡ bytes_of n → put_mid o (o + 16 - o) xs ys ≡ take o xs ++ (bytes_of n ++ drop (o + 16) xs)
bytes_put o xs ys n is =
    let sixteen : o + 16 - o ≡ 16 = omega arith in
    rw (sixteen, is, drop-drop)

pub notice_put : (k : ℕ) (xs ys : List ℕ) (n : Notice) → k < length (records xs) → ys ≡ bytes_of n → read_of ys ≡ n → records (put_mid (16 * k) (16 * k + 16 - 16 * k) xs ys) ≡ set (records xs) k n
notice_put k xs ys n l is back =
    let count = records_count xs in
    ap records (bytes_put (16 * k) xs ys n is) ∙ records-written xs (bytes_of n) k refl (omega arith) ∙ ap (set (records xs) k) (sym (ap read_of is) ∙ back)

-- what the places in bytes need
pub ruleset cells = (records_count, record_read, bytes_put, notice_put)
