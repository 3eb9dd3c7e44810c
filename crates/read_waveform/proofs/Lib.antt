pub mod WaveformLaws
