-- What public contracts say.
pub mod CellTexts
