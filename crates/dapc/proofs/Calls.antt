-- A whole call: lines 1 to 3, then 5 and 9, and what the design of the labels tells.
use Rattle.lists.proofs.Base.{◌≡◌, refl, sym, ap, ap₂, subst, ◌∙◌, true, false, List, [], ℕ, ◌+◌, ◌-◌, ◌*◌, ◌≤◌, mul-le-mul, min-le_left, arith, length, Float}
use Rattle.lists.specs.Filters.{all}
use Rattle.lists.specs.inner.Numbers.{Below}
use Rattle.outcome.specs.{Refusals.first, Outcome.Told, Outcome.refused, Outcome.passed, Outcome.and_then, Slices.output, Slices.untouched}
use Rattle.lot.specs.Kept.{kept, group_each, kept_count, group_count}
use Rattle.lot.specs.inner.Description.{samples_of}
use Rattle.lot.proofs.Samples.{kept-few, kept-below}
use Rattle.lot_design.specs.inner.{Groups.placed, Designs.Describes}
use Rattle.lot_design.proofs.PlacedGroups.{length-each, each_placed}
use Rattle.lot_design.specs.declared.Design.{Design}
use Rattle.dapc_scatter.specs.Means.{grouped}
use Rattle.dapc_scatter.specs.inner.Means.{Numbered}
use Rattle.outcome.proofs.Table.{first-after, first-before, first-untouched}
use Rattle.dapc_discriminant.specs.{Dapc.columns_used, Dapc.axes_of, Dapc.discriminate, Dapc.dapc, Outputs.Called, Outputs.leaves}
use Rattle.dapc_discriminant.specs.inner.Outputs.{refusal, Ready}
use Rattle.dapc.specs.{DapcLines.shape_lines, DapcLines.group_lines, DapcLines.dapc_lines, Call.call_by, Call.dapc_call}
use Rattle.dapc.proofs.Lines.{Shaped, passed-shape, passed-groups}
use Rattle.dapc.specs.inner.{Call.groups_call, Scores.scores_call, Scores.each_of, Scores.lead_of, Scores.Sized, Scores.Scorable}
use Rattle.dapc_discriminant.proofs.Outputs.{axes-most}
use Rattle.dapc.proofs.LabelGroups.{grouped-kept, numbered-each, half-groups}

module _ (n columns : ℕ) (x : List Float) (labels : List ℕ) (out : List Float) (assigned : List ℕ) where
  -- a refusal of 1 to 9 leaves all as it was
  refused-by-line : {k : ℕ} {t : Told} → untouched k ≡ true → refused k ≡ t → refusal k out assigned ≡ call_by t n columns x labels out assigned
  unfolding call_by leaves output and_then
  refused-by-line {k} u e =
      let kept : refusal k out assigned ≡ call_by (refused k) n columns x labels out assigned = rw u in
      kept ∙ ap (λ (t : Told). call_by t n columns x labels out assigned) e

  groups-refused : {k : ℕ} → refused k ≡ first (group_lines columns (kept_count labels) (group_count labels)) → refusal k out assigned ≡ groups_call n columns x labels out assigned
  unfolding groups_call group_lines all
  groups-refused e = refused-by-line (first-untouched (group_lines columns (kept_count labels) (group_count labels)) refl e) e

  pub call-refused : {k : ℕ} → refused k ≡ first (shape_lines n columns x (length labels) (length out) (length assigned))
      → refusal k out assigned ≡ dapc_call n columns x labels out assigned
  unfolding dapc_call dapc_lines shape_lines all
  call-refused e = refused-by-line (first-untouched (shape_lines n columns x (length labels) (length out) (length assigned)) refl e)
      (sym (first-before (shape_lines n columns x (length labels) (length out) (length assigned)) (group_lines columns (kept_count labels) (group_count labels)) (sym e)))

  -- lines 1 to 3 let the call pass
  module _ (clear : passed ≡ first (shape_lines n columns x (length labels) (length out) (length assigned))) where
    abbrev shaped : Shaped n columns x (length labels) (length out) (length assigned)
    shaped = passed-shape n columns x (length labels) (length out) (length assigned) clear

    pub call-sized : Sized columns x labels (length out) (length assigned)
    call-sized =
        let same = shaped.labelled in
        record {
          coordinates = shaped.coordinates ∙ ap (λ (k : ℕ). k * columns) (sym same);
          few = omega (arith, shaped.few);
          narrow = shaped.narrow;
          room = omega (arith, shaped.room, ap (λ (k : ℕ). k * columns) same);
          places = omega (arith, shaped.places);
        }

    pub call-passed : {r : Called} → r ≡ groups_call (length labels) columns x labels out assigned → r ≡ dapc_call n columns x labels out assigned
    unfolding dapc_call dapc_lines groups_call
    call-passed h = h ∙ ap (λ (k : ℕ). groups_call k columns x labels out assigned) shaped.labelled
        ∙ ap (λ (t : Told). call_by t n columns x labels out assigned)
        (sym (first-after (shape_lines n columns x (length labels) (length out) (length assigned)) (group_lines columns (kept_count labels) (group_count labels)) (sym clear)))

-- ---- by the design of the labels

module _ (columns : ℕ) (x : List Float) (labels : List ℕ) {d : Design} (is : Describes (samples_of labels false []) d) where
  each-is : each_of d ≡ group_each labels
  each-is = (λ i. placed (is.many i) (is.kept_are i) (is.groups_are i)) ∙ sym (each_placed labels)

  counted : length labels ≤ 256 → d.kept ≡ length (grouped (each_of d))
  unfolding kept_count
  counted few = is.kept_many ∙ sym (ap (λ (l : List ℕ). length (grouped l)) each-is ∙ ap length (grouped-kept labels few))

  numbered : Numbered d.groups (each_of d)
  numbered = subst (Numbered d.groups) (sym each-is) (subst (λ (g : ℕ). Numbered g (group_each labels)) (sym is.groups_many) (numbered-each labels))

  lines_are : first (group_lines columns d.kept d.groups) ≡ first (group_lines columns (kept_count labels) (group_count labels))
  lines_are = ap₂ (λ (m g : ℕ). first (group_lines columns m g)) is.kept_many is.groups_many

  -- its samples can be scored
  pub scorable : {out assigned : ℕ} → Sized columns x labels out assigned → passed ≡ first (group_lines columns d.kept d.groups) → Scorable columns x d out assigned
  unfolding columns_used kept_count
  scorable sized e =
      let two = (passed-groups columns d.kept d.groups e).0 in
      let p = lead_of columns d in
      let long : length (each_of d) ≡ length labels = ap length each-is ∙ length-each labels in
      let within : p ≤ columns = min-le_left columns (d.kept - (d.groups + 1)) in
      let axial : axes_of d.groups p ≤ columns = omega (arith, axes-most (axes_of d.groups p) d.groups p refl) in
      record {
        few = omega (arith, is.many, sized.few);
        kept_few = omega (arith, is.kept_many, kept-few labels, sized.few);
        samples = subst (Below d.n) (sym is.kept_are) (subst (λ (n : ℕ). Below n (kept labels)) (sym is.many) (kept-below labels));
        counted = counted sized.few;
        ready = record {
          coordinates = sized.coordinates ∙ ap (λ (n : ℕ). n * columns) (sym long);
          leads = within;
          narrow = omega (arith, sized.narrow);
          two = two;
          most = omega (arith, half-groups labels, kept-few labels, sized.few, is.groups_many);
          numbered = numbered;
          few = omega (arith, sized.few);
          axial = refl;
          room = omega (
            arith,
            mul-le-mul {n₁ = length labels} {m₁ = axes_of d.groups p} {n₂ = length labels} {m₂ = columns} (omega arith) axial,
            ap (λ (n : ℕ). n * axes_of d.groups p) long,
            sized.room,
          );
          places = omega (arith, sized.places);
        };
      }

  module _ (out : List Float) (assigned : List ℕ) where
    pub groups-refused-by : {k : ℕ} → refused k ≡ first (group_lines columns d.kept d.groups)
        → refusal k out assigned ≡ groups_call (length labels) columns x labels out assigned
    groups-refused-by e = groups-refused (length labels) columns x labels out assigned (e ∙ lines_are)

    -- the scores are those of the labels
    pub groups-scored : {r : Called} → length labels ≤ 256 → passed ≡ first (group_lines columns d.kept d.groups) → r ≡ scores_call columns x d out assigned
        → r ≡ groups_call (length labels) columns x labels out assigned
    unfolding scores_call dapc groups_call call_by
    groups-scored few e h =
        let step : ℕ → ℕ → ℕ → ℕ → List ℕ → Called =
        λ n m k g l. leaves n (columns_used columns m g) (axes_of g (columns_used columns m g)) (discriminate n columns (columns_used columns k g) x l g) out assigned in
        h ∙ (λ i. step (is.many i) (is.kept_many i) (counted few i) (is.groups_many i) (each_of d))
        ∙ ap (λ (l : List ℕ). step (length labels) (kept_count labels) (length (grouped l)) (group_count labels) l) each-is
        ∙ ap (λ (t : Told). call_by t (length labels) columns x labels out assigned) (e ∙ lines_are)

-- ---- the groups as they stand when the scores are asked for, on p columns

module _ {columns : ℕ} {x : List Float} {d : Design} {room places : ℕ} (s : Scorable columns x d room places) {each : List ℕ} {p : ℕ} (is : each ≡ each_of d)
    (lead : p ≡ lead_of columns d) where
  pub groups-ready : Ready columns p (axes_of d.groups p) d.groups x each room places × (d.kept ≡ length (grouped each))
  groups-ready = (
    subst (λ (l : List ℕ). Ready columns p (axes_of d.groups p) d.groups x l room places) (sym is)
        (subst (λ (k : ℕ). Ready columns k (axes_of d.groups k) d.groups x (each_of d) room places) (sym lead) s.ready),
    s.counted ∙ ap (λ (l : List ℕ). length (grouped l)) (sym is),
  )

  pub scores-are : (out : List Float) (assigned : List ℕ) {r : Called} → length each ≡ d.n
      → r ≡ leaves (length each) p (axes_of d.groups p) (discriminate (length each) columns p x each d.groups) out assigned → r ≡ scores_call columns x d out assigned
  unfolding scores_call
  scores-are out assigned long e =
      e ∙ (λ i. leaves (long i) (lead i) (axes_of d.groups (lead i)) (discriminate (long i) columns (lead i) x (is i) d.groups) out assigned)
